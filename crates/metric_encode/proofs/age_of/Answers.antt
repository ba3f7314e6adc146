use native.Mathlib.Omega.{arith}
use Rattle.metric.proofs.Table.{after_row}
use Rattle.metric_encode.proofs.age_of.Goals as goal

pub returns-in-None : goal.returns-in-None
returns-in-None c = record { value = rw c.in-None.is (after_row _ (omega arith)) }

pub returns-in-Some : goal.returns-in-Some
returns-in-Some c = record { value = rw (c.in-Some.is, c.age.ensures.value) }
