use mathlib.Core.List.{[], ◌∷◌}
use Rattle.std.specs.Prelude.{ℕ, Result}
use Rattle.refusal.specs.declared.Refusal.{Refusal}
use Rattle.ccfb_calls.proofs.Told.{told}
use Rattle.ccfb_datagram.specs.Datagrams.{count_called}
use borrow.Author.Rules.{rules}
use Rattle.ccfb_datagram.proofs.ccfb_feedback_count.Goals as goal

pub returns-in-Ok : goal.returns-in-Ok
returns-in-Ok c =
    let args = c.args in
    record {
      after = told (λ (x : Result ℕ Refusal). count_called x (args.count.now ∷ []))
          c.count_feedback-answer.ensures.value c.in-Ok.is;
    }

pub returns-in-Err : goal.returns-in-Err
returns-in-Err c =
    let args = c.args in
    record {
      after = rw c.number.ensures.value
          (told (λ (x : Result ℕ Refusal). count_called x (args.count.now ∷ []))
          c.count_feedback-answer.ensures.value c.in-Err.is);
    }
