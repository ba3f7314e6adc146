-- The writer on requests that were gathered from a list is the writer on that list. Assumes nothing.
use mathlib.Core.Path.{◌≡◌, ap}
use mathlib.Core.List.{List}
use Prim.Native.Nat.{ℕ, ◌<◌}
use native.Mathlib.Decide.{dec_le}
use native.Mathlib.Omega.{arith}
use lib.ListN.{length, take}
use borrow.Author.Tests.{lt-ltb}
use Rattle.cutting.specs.Limits.{most_requests}
use Rattle.cutting.specs.declared.Request.{Request}
use Rattle.writer.specs.Written.{written}
use Rattle.request_list.specs.Lent.{gathered_of}
use Rattle.request_list.proofs.Lent.{take_gathered}

module _ (places cells : List ℕ) (sender rts limit : ℕ) (rs : List Request) (out : List ℕ) where
  -- more than 16 are refused, whatever they are
  too_many : (qs : List Request) (n : ℕ) → most_requests < n
      → written places cells sender rts limit n qs out ≡ written places cells sender rts limit n rs out
  unfolding written
  too_many qs n h = rw (lt-ltb most_requests n h)

  pub lent : written places cells sender rts limit (length rs) (take (length rs) (gathered_of rs)) out
      ≡ written places cells sender rts limit (length rs) rs out
  lent = elim (dec_le (length rs) most_requests) [
    | yes h ↦ ap (λ (qs : List Request). written places cells sender rts limit (length rs) qs out) (take_gathered rs h)
    | no h ↦ too_many (take (length rs) (gathered_of rs)) (length rs) (omega (arith, h))
  ]
