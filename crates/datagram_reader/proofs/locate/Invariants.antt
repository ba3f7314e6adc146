-- The invariant: what is left to pass leads from here to the packet that
-- k leads to from the start.
use Prim.Native.Nat.{◌-◌}
use mathlib.Core.Path.{◌≡◌}
use lib.ListN.{length}
use Rattle.datagram.specs.Walk.{packets_from, packets_of}
use Rattle.datagram_reader.specs.Reading.{located_feedback}
use Rattle.datagram_reader.proofs.locate.Given as goal

abbrev pub invariant-loop-p : goal.invariant-loop-p
invariant-loop-p l =
    located_feedback (packets_from l.datagram l.at) l.left ≡ located_feedback (packets_of l.datagram) l.k

abbrev pub decreases-loop-p : goal.decreases-loop-p
decreases-loop-p l = length l.datagram - l.at
