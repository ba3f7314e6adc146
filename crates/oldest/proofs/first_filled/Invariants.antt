-- The invariant: the search starting at i finds what the search starting at 0 finds.
use Prim.Native.Nat.{◌-◌}
use mathlib.Core.Path.{◌≡◌}
use Rattle.lists.specs.First.{first_from}
use Rattle.oldest.specs.Steps.{filled_at, first_filled}
use Rattle.oldest.proofs.first_filled.Given as goal

abbrev pub invariant-loop-i : goal.invariant-loop-i
invariant-loop-i l = first_from (filled_at l.cells l.start) l.i (l.count - l.i) ≡ first_filled l.cells l.start l.count
