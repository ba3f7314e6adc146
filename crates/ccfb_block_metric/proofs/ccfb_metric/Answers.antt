use mathlib.Core.Path.{ap, ◌∙◌}
use mathlib.Core.List.{◌∷◌}
use Rattle.std.specs.Prelude.{Result}
use Rattle.reports.specs.declared.Reported.{Reported}
use Rattle.refusal.specs.declared.Refusal.{Refusal}
use Rattle.ccfb_calls.specs.Called.{Called, called}
use Rattle.ccfb_calls.proofs.Told.{told}
use Rattle.ccfb_block_metric.specs.Metric.{metric_called}
use borrow.Author.Rules.{rules}
use Rattle.ccfb_block_metric.proofs.ccfb_metric.Goals as goal

pub returns-in-Ok : goal.returns-in-Ok
returns-in-Ok c =
    let args = c.args in
    record {
      after = ap (λ (x : Called). called 0 (c.in-Ok.reported.number ∷ x.answer ∷ x.behind)) c.put_case.ensures.after
          ∙ told (λ (x : Result Reported Refusal). metric_called x args.number.now args.case.now args.mark.now args.offset.now)
          c.metric-answer.ensures.value c.in-Ok.is;
    }

pub returns-in-Err : goal.returns-in-Err
returns-in-Err c =
    let args = c.args in
    record {
      after = rw c.number.ensures.value
          (told (λ (x : Result Reported Refusal). metric_called x args.number.now args.case.now args.mark.now args.offset.now)
          c.metric-answer.ensures.value c.in-Err.is);
    }
