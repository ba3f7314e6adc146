use Prim.Native.Nat.{◌%◌}
use mathlib.Core.Path.{sym, ap, ◌∙◌}
use native.Mathlib.Omega.{arith}
use Rattle.metric.specs.Metric.{assembled_of}
use Rattle.cell_metrics.proofs.Words.{metric_empty, metric_untimed, metric_timed}
use Rattle.cell_metrics.proofs.metric_of_word.Goals.{then-kind-lt-LEAST_TIMED, else-kind-lt-LEAST_TIMED}
use Rattle.cell_metrics.proofs.metric_of_word.Goals as goal

pub assembled-filled-requires : goal.assembled-filled-requires
assembled-filled-requires c =
    record { bits = elim c.if-kind-lt-LEAST_TIMED.branch [ then-kind-lt-LEAST_TIMED w ↦ omega arith | else-kind-lt-LEAST_TIMED w ↦ omega arith ] }

pub returns-then-kind-lt-LEAST_FILLED : goal.returns-then-kind-lt-LEAST_FILLED
returns-then-kind-lt-LEAST_FILLED c = record { value = sym (metric_empty _ _ c.if-kind-lt-LEAST_FILLED.true) }

pub returns-else-kind-lt-LEAST_FILLED : goal.returns-else-kind-lt-LEAST_FILLED
returns-else-kind-lt-LEAST_FILLED c =
    let args = c.args in
    let field = assembled_of (args.word % 4) in
    record {
      value = elim c.if-kind-lt-LEAST_TIMED.branch [
        | then-kind-lt-LEAST_TIMED w ↦ c.assembled-filled.ensures.value ∙ ap field w.ato-is ∙ sym (metric_untimed args.word args.rts c.if-kind-lt-LEAST_FILLED.false w.if-kind-lt-LEAST_TIMED.true)
        | else-kind-lt-LEAST_TIMED w ↦ c.assembled-filled.ensures.value ∙ ap field w.ato-is ∙ rw (c.ato_of_age-timed.ensures.value, c.age.ensures.value) (sym (metric_timed _ _ w.if-kind-lt-LEAST_TIMED.false))
      ];
    }
