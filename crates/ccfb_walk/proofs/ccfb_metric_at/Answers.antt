use mathlib.Core.Path.{ap, ◌∙◌}
use mathlib.Core.List.{◌∷◌}
use Rattle.std.specs.Prelude.{Result}
use Rattle.metric.specs.declared.Metric.{Metric}
use Rattle.refusal.specs.declared.Refusal.{Refusal}
use Rattle.ccfb_calls.specs.Called.{Called, called}
use Rattle.ccfb_calls.proofs.Told.{told}
use Rattle.ccfb_walk.specs.Walk.{metric_at_called}
use borrow.Author.Rules.{rules}
use Rattle.ccfb_walk.proofs.ccfb_metric_at.Goals as goal

pub returns-in-Ok : goal.returns-in-Ok
returns-in-Ok c =
    let args = c.args in
    record {
      after = ap (λ (x : Called). called 0 (x.answer ∷ x.behind)) c.put_case.ensures.after
          ∙ told (λ (x : Result Metric Refusal). metric_at_called x args.case.now args.mark.now args.offset.now)
          c.metric_at-answer.ensures.value c.in-Ok.is;
    }

pub returns-in-Err : goal.returns-in-Err
returns-in-Err c =
    let args = c.args in
    record {
      after = rw c.number.ensures.value
          (told (λ (x : Result Metric Refusal). metric_at_called x args.case.now args.mark.now args.offset.now)
          c.metric_at-answer.ensures.value c.in-Err.is);
    }
