use native.Mathlib.Omega.{arith}
use Rattle.plan_size.proofs.Division.{full_some}
use Rattle.plan_size.proofs.full_packets.Goals as goal

pub returns : goal.returns
returns c = record { value = full_some _ _ (omega arith) (omega arith) }
