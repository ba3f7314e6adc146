-- The invariant: the blocks that follow make of the output what all of
-- them make of it at the start.
use Prim.Native.Nat.{◌-◌}
use mathlib.Core.Path.{◌≡◌}
use lib.ListN.{length}
use lib.Seq.{sets}
use Rattle.rewriter.proofs.Output.{rewritten_rest}
use Rattle.rewriter.proofs.rewrite_blocks.Given as goal

abbrev pub invariant-loop-block : goal.invariant-loop-block
invariant-loop-block l =
    (length l.out ≡ length l.initial.out)
    × (sets l.out l.cursor.at (rewritten_rest l.packet l.cursor.at) ≡ sets l.initial.out l.initial.cursor.at (rewritten_rest l.packet l.initial.cursor.at))

abbrev pub decreases-loop-block : goal.decreases-loop-block
decreases-loop-block l = length l.packet - l.cursor.at
