-- The invariant: the blocks passed and the walk from here count as
-- the whole walk.
use Prim.Native.Nat.{◌-◌, ◌*◌, ◌≤◌}
use mathlib.Core.Path.{◌≡◌}
use lib.ListN.{length}
use Rattle.walk.specs.Walk.{walk_from}
use Rattle.reader.specs.Steps.{counted}
use Rattle.reader.proofs.count_blocks_from.Given as goal

abbrev pub invariant-loop-next : goal.invariant-loop-next
invariant-loop-next l =
    (8 * l.n ≤ l.cursor.at) × (counted l.n (walk_from l.packet l.cursor.at) ≡ counted 0 (walk_from l.packet l.initial.cursor.at))

abbrev pub decreases-loop-next : goal.decreases-loop-next
decreases-loop-next l = length l.packet - l.cursor.at
