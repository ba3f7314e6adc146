use native.Mathlib.Omega.{arith}
use Rattle.metric.proofs.assembled.Goals as goal

pub returns : goal.returns
returns c = record { value = omega arith }
