use mathlib.Core.Path.{refl}
use borrow.Author.Rules.{rules}
use Rattle.ccfb_sent.proofs.put_status.Goals as goal

pub returns-in-NotReported : goal.returns-in-NotReported
returns-in-NotReported c = record { after = rw c.in-NotReported.is refl }

pub returns-in-Missing : goal.returns-in-Missing
returns-in-Missing c = record { after = rw c.in-Missing.is refl }

pub returns-in-Received : goal.returns-in-Received
returns-in-Received c = record { after = rw c.in-Received.is refl }

pub returns-in-OverRange : goal.returns-in-OverRange
returns-in-OverRange c = record { after = rw c.in-OverRange.is refl }

pub returns-in-NoTime : goal.returns-in-NoTime
returns-in-NoTime c = record { after = rw c.in-NoTime.is refl }
