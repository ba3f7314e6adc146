-- The invariant: the metrics that are left, written onto the output
-- as it is, give what all of them, written onto the output at entry, give.
use Rattle.std.proofs.Common.{◌≡◌, ◌+◌, ◌-◌, ◌*◌}
use Rattle.std.proofs.lemmas.List.Edits.{sets}
use Rattle.cell_metrics.specs.Metrics.{cell_metric}
use Rattle.packet.specs.Packet.{encode_metrics}
use Rattle.cutting.specs.Plan.{number_after}
use Rattle.report_block.proofs.Metrics.{metrics_of}
use Rattle.report_block.proofs.put_metrics.Given as goal

abbrev pub invariant-loop-i : goal.invariant-loop-i
invariant-loop-i l =
    let metrics = metrics_of (cell_metric l.cells l.rts l.p) in
    sets l.out (l.at + 2 * l.i) (encode_metrics (metrics (number_after l.begin l.i) (l.count - l.i)))
    ≡ sets l.initial.out l.at (encode_metrics (metrics l.begin l.count))
