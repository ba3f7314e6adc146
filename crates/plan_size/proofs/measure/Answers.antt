use native.Mathlib.Omega.{arith}
use Rattle.plan_size.proofs.Division.{added_none, added_one, added_all}
use Rattle.plan_size.proofs.measure.Goals as goal

pub loop-r-init : goal.loop-r-init
loop-r-init c = added_none c.args.limit c.args.requests.now

pub loop-r-preserved : goal.loop-r-preserved
loop-r-preserved c =
    added_one _ _ _ _ _ _ _ c.loop-r.invariant (omega arith) c.add_range-more.ensures.value

pub returns : goal.returns
returns c = record { value = added_all _ _ _ _ _ _ c.loop-r.invariant (omega arith) }
