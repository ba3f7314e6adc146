use Prim.Native.Nat.{◌+◌, ◌*◌}
use mathlib.Core.Path.{ap, ◌∙◌}
use native.Mathlib.Omega.{arith}
use Rattle.metric_rewriter.specs.Steps.{rewrite_low_first}
use Rattle.metric_rewriter.proofs.Metrics.{metric_turn, metric_written, metrics_done}
use Rattle.metric_rewriter.proofs.rewrite_metrics.Goals as goal

pub loop-j-preserved : goal.loop-j-preserved
loop-j-preserved c =
    let a = c.args in
    let i = a.at + 2 * c.loop-j.j in
    let octet = c.type_inv.packet in
    rw (metric_written a.packet.now c.loop-j.out i _ (omega (arith, octet i)) (omega (arith, octet (i + 1)))
    (c.rewrite_low_first-m.ensures.value ∙ ap rewrite_low_first c.low_first_at.ensures.value))
    (metric_turn a.packet.now c.loop-j.out a.at a.n c.loop-j.j (omega arith) ∙ c.loop-j.invariant)

pub returns : goal.returns
returns c = record { content = metrics_done c.args.packet.now _ _ _ _ c.loop-j-test.false ∙ c.loop-j.invariant }
