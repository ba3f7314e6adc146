use mathlib.Core.Path.{ap, ◌∙◌}
use mathlib.Core.List.{◌∷◌}
use Rattle.std.specs.Prelude.{Result}
use Rattle.sent_word.specs.declared.Status.{Status}
use Rattle.refusal.specs.declared.Refusal.{Refusal}
use Rattle.ccfb_calls.specs.Called.{Called, called}
use Rattle.ccfb_calls.proofs.Told.{told}
use Rattle.ccfb_sent.specs.Sent.{status_called}
use borrow.Author.Rules.{rules}
use Rattle.ccfb_sent.proofs.ccfb_status.Goals as goal

-- the kind is what `put_status` answers
pub returns-in-Ok : goal.returns-in-Ok
returns-in-Ok c =
    let args = c.args in
    record {
      after = ap (λ (x : Called). called 0 (x.answer ∷ x.behind)) c.put_status.ensures.after
          ∙ told (λ (x : Result Status Refusal). status_called x args.kind.now args.mark.now args.time.now)
          c.status-answer.ensures.value c.in-Ok.is;
    }

pub returns-in-Err : goal.returns-in-Err
returns-in-Err c =
    let args = c.args in
    record {
      after = rw c.number.ensures.value
          (told (λ (x : Result Status Refusal). status_called x args.kind.now args.mark.now args.time.now)
          c.status-answer.ensures.value c.in-Err.is);
    }
