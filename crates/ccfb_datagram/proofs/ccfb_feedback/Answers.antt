use Rattle.ccfb_calls.proofs.Told.{told}
use Rattle.ccfb_datagram.specs.Datagrams.{feedback_called}
use borrow.Author.Rules.{rules}
use Rattle.ccfb_datagram.proofs.ccfb_feedback.Goals as goal

pub returns-in-Ok : goal.returns-in-Ok
returns-in-Ok c = record { after = told feedback_called c.feedback-answer.ensures.value c.in-Ok.is }

pub returns-in-Err : goal.returns-in-Err
returns-in-Err c =
    record { after = rw c.number.ensures.value (told feedback_called c.feedback-answer.ensures.value c.in-Err.is) }
