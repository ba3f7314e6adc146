-- The invariant: the blocks from here make of the cells what
-- all of them make of the cells at the start.
use Prim.Native.Nat.{◌-◌}
use mathlib.Core.Path.{◌≡◌, refl, sym, ◌∙◌}
use native.Mathlib.Omega.{arith}
use lib.ListN.{length}
use Rattle.walk.specs.Walk.{walk_from}
use Rattle.walk.proofs.Steps.{inside, next_more}
use Rattle.reports.proofs.Within.{within, few_reports}
use Rattle.sent_feedback.specs.Steps.{NotStopped, blocks_taken}
use Rattle.sent_feedback.proofs.Steps.{block_sound, block_turn, blocks_end, blocks_never}
use borrow.Author.Rules.{rules}
use Rattle.sent_feedback.proofs.take_blocks.Given as goal

abbrev pub invariant-loop-block : goal.invariant-loop-block
invariant-loop-block l =
    (length l.cells ≡ length l.initial.cells) × (NotStopped (walk_from l.packet l.cursor.at))
    × (blocks_taken l.places l.rts l.packet l.cells (walk_from l.packet l.cursor.at)
    ≡ blocks_taken l.places l.rts l.packet l.initial.cells (walk_from l.packet l.initial.cursor.at))

abbrev pub decreases-loop-block : goal.decreases-loop-block
decreases-loop-block l = length l.packet - l.cursor.at
