-- The invariant: the zeroes from here on make what all zeroes make.
use Rattle.std.proofs.Common.{◌≡◌, ◌+◌, ◌-◌, replicate}
use Rattle.std.proofs.lemmas.List.Edits.{sets}
use Rattle.ring.proofs.clear.Given as goal

abbrev pub invariant-loop-i : goal.invariant-loop-i
invariant-loop-i l =
    sets l.words (l.start + l.i) (replicate (l.count - l.i) 0) ≡ sets l.initial.words l.start (replicate l.count 0)
