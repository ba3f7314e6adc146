-- The invariant: the metrics from here make of the cells what all of
-- them make of the cells at the start.
use Rattle.std.proofs.Common.{◌≡◌, ◌+◌, ◌-◌, ◌*◌}
use Rattle.reader.specs.Reading.{metrics_at_of}
use Rattle.sent_block.specs.Steps.{run_entered}
use Rattle.sent_block.proofs.enter_run.Given as goal

abbrev pub invariant-loop-i : goal.invariant-loop-i
invariant-loop-i l =
    run_entered l.rts l.cells (l.at + l.i) (metrics_at_of l.packet (l.from + 2 * l.i) (l.n - l.i)) ≡ run_entered l.rts l.initial.cells l.at (metrics_at_of l.packet l.from l.n)
