-- The invariant: the search starting at i finds what the search starting at `from`
-- finds.
use Prim.Native.Nat.{◌-◌}
use mathlib.Core.Path.{◌≡◌}
use lib.ListN.{length}
use Rattle.places.specs.Place.{find_from}
use Rattle.places.proofs.find_from.Given as goal

abbrev pub invariant-loop-i : goal.invariant-loop-i
invariant-loop-i l = find_from l.places l.ssrc l.i ≡ find_from l.places l.ssrc l.from
