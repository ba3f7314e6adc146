use Rattle.plan_size.proofs.Division.{Added-up}
use Rattle.plan_size.proofs.measure.Given as goal

abbrev pub invariant-loop-r : goal.invariant-loop-r
invariant-loop-r l = Added-up l.limit l.requests l.packets l.octets l.room l.r-index
