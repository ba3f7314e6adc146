-- A list gathered in an array. Assumes nothing.
use mathlib.Core.Path.{◌≡◌, refl, ap, ◌∙◌}
use mathlib.Core.List.{List}
use Prim.Native.Nat.{◌+◌, ◌≤◌}
use native.Mathlib.Omega.{arith}
use native.Mathlib.Nat.{zero-add}
use lib.ListN.{length, take, drop}
use lib.Seq.{sets, sets-eq, take_all, take_at}
use Rattle.cutting.specs.declared.Request.{Request}
use Rattle.request_list.specs.Lent.{blanks, gathered_of}

module _ {A : Type 0} (d xs : List A) where
  pub take_sets : length xs ≤ length d → take (length xs) (sets d 0 xs) ≡ xs
  take_sets h = ap (take (length xs)) (sets-eq xs d 0 (omega (arith, zero-add (length xs)))) ∙ take_at xs (drop (0 + length xs) d) (length xs) refl

-- an array with the requests of a list that is not too long begins with them
pub take_gathered : (rs : List Request) → length rs ≤ 16 → take (length rs) (gathered_of rs) ≡ rs
take_gathered rs h = ap (λ (z : List Request). take (length rs) (sets blanks 0 z)) (take_all 16 rs h) ∙ take_sets blanks rs h
