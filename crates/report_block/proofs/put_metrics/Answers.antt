use Rattle.std.proofs.Common.{sym, ap, ◌∙◌, arith}
use Rattle.std.proofs.lemmas.List.Edits.{sets}
use Rattle.report_block.proofs.Metrics.{metrics_turn, metrics_none}
use Rattle.report_block.proofs.put_metrics.Goals as goal

pub loop-i-preserved : goal.loop-i-preserved
loop-i-preserved c =
    let a = c.args in
    metrics_turn _ c.loop-i.out _ _ a.at a.begin a.count c.loop-i.i _ c.loop-i-test.true
    (rw c.number_after-number.ensures.value at c.cell_metric-metric.ensures.value) c.put16.ensures.content c.loop-i.invariant

pub returns : goal.returns
returns c =
    record { content = sym (ap (sets _ _) (metrics_none _ _ _ (omega arith))) ∙ c.loop-i.invariant }
