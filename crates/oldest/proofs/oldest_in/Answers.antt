use Prim.Native.Nat.{◌+◌, ◌*◌, ◌<◌}
use mathlib.Core.Path.{◌≡◌, sym, ◌∙◌}
use native.Mathlib.Omega.{arith}
use Rattle.lists.proofs.First.{first_below}
use Rattle.ring.specs.Ring.{cells_of_a_place}
use Rattle.oldest.specs.Steps.{first_filled}
use Rattle.oldest.proofs.Search.{newer, older, found_older, found_newer, found_none}
use Rattle.std.specs.Prelude.{Some, None}
use Rattle.oldest.proofs.oldest_in.Goals.{In-Some, In-Some-first_filled, In_default}
use Rattle.oldest.proofs.oldest_in.Goals as goal

-- where the first search found a cell
told-older : (c : In-Some)
    → let args = c.args in
    first_filled args.cells.now (cells_of_a_place * args.p + newer args.highest) (older args.highest) ≡ Some c.in-Some.i
told-older c = sym c.first_filled.ensures.value ∙ c.in-Some.is

-- where it found none
told_none : (c : In_default)
    → let args = c.args in
    first_filled args.cells.now (cells_of_a_place * args.p + newer args.highest) (older args.highest) ≡ None
told_none c = sym c.first_filled.ensures.value ∙ c.in_default.is

-- where the second search found a cell
told-newer : (c : In-Some-first_filled)
    → let args = c.args in
    first_filled args.cells.now (cells_of_a_place * args.p) (newer args.highest) ≡ Some c.in-Some-first_filled.i
told-newer c = sym c.first_filled-2.ensures.value ∙ c.in-Some-first_filled.is

below-newer : (c : In-Some-first_filled)
    → let args = c.args in
    c.in-Some-first_filled.i < newer args.highest
below-newer c = let l = first_below _ _ _ _ ((sym c.first_filled-2.ensures.value ∙ c.in-Some-first_filled.is)) in omega arith

pub window_number-requires : goal.window_number-requires
window_number-requires c =
    let l = first_below _ _ _ _ (told-older c) in
    record { within = omega arith }

pub returns-in-Some : goal.returns-in-Some
returns-in-Some c =
    record { value = c.window_number.ensures.value ∙ found_older _ _ _ _ (told-older (goal.at.returns-in-Some c).In-Some) }

pub overflow_add-older : goal.overflow_add-older
overflow_add-older c = omega (arith, below-newer c)

pub window_number-requires-in-Some-first_filled : goal.window_number-requires-in-Some-first_filled
window_number-requires-in-Some-first_filled c = record { within = omega (arith, below-newer c) }

pub returns-in-Some-first_filled : goal.returns-in-Some-first_filled
returns-in-Some-first_filled c =
    record { value = c.window_number-in-Some-first_filled.ensures.value ∙ found_newer _ _ _ (told_none (goal.at.returns-in-Some-first_filled c).In_default) _ (told-newer (goal.at.returns-in-Some-first_filled c).In-Some-first_filled) }

pub returns : goal.returns
returns c =
    record { value = found_none _ _ _ (told_none (goal.at.returns c).In_default) (sym c.first_filled-2.ensures.value ∙ c.in_default-first_filled.is) }
