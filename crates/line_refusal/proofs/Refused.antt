-- How long the line of a refusal is. Assumes nothing.
use Prim.Native.Nat.{◌+◌, ◌/◌, ◌%◌, ◌≤◌}
use mathlib.Core.Bool.{Bool, true, false, cond}
use mathlib.Core.List.{[], ◌∷◌, ◌++◌}
use lib.Dec.{ltb, lit≤}
use lib.ListN.{length}
use Rattle.refusal.specs.declared.Refusal.{Refusal}
use Rattle.refusal.specs.Numbers.{number_of}
use Rattle.line_hex.specs.Hex.{zero_digit, newline}
use Rattle.line_refusal.specs.Refused.{refused_text, refused_line, refusal_room}

pub length_refused : (e : Refusal) → length (refused_line e) ≤ refusal_room
unfolding refused_line
length_refused e = go (ltb (number_of e) 10)
  where
    go : (b : Bool)
        → length (refused_text ++ (cond b ((zero_digit + number_of e) ∷ []) ((zero_digit + number_of e / 10) ∷ (zero_digit + number_of e % 10) ∷ []) ++ newline)) ≤ refusal_room
    go true = lit≤ tt
    go false = lit≤ tt
