use Rattle.ccfb_calls.proofs.Told.{told}
use Rattle.ccfb_reports.specs.Reports.{part_called}
use borrow.Author.Rules.{rules}
use Rattle.ccfb_reports.proofs.ccfb_block_metrics.Goals as goal

pub returns-in-Ok : goal.returns-in-Ok
returns-in-Ok c = record { after = told part_called c.block-found.ensures.value c.in-Ok.is }

pub returns-in-Err : goal.returns-in-Err
returns-in-Err c =
    record { after = rw c.number.ensures.value (told part_called c.block-found.ensures.value c.in-Err.is) }
