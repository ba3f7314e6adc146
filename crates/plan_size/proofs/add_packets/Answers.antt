use Prim.Native.Nat.{◌+◌, ◌*◌, ◌≤◌, ◌<◌}
use native.Mathlib.Omega.{arith}
use Rattle.cutting.specs.Limits.{most_limit}
use Rattle.plan_size.specs.Steps.{most_added}
use Rattle.plan_size.proofs.Division.{full_few, adds_new}
use Rattle.plan_size.proofs.add_packets.Goals.{After-block_octets}
use Rattle.plan_size.proofs.add_packets.Goals as goal

few : (c : After-block_octets)
    → (c.full_packets-full.result < most_added)
    × (c.full_packets-full.result * (12 + c.block_octets.result) ≤ 32767 * most_limit)
few c =
    let a = c.args in
    full_few a.limit (omega arith) (omega arith) _ a.count _ _ c.numbers_in-most.ensures.value (omega arith)
    c.full_packets-full.ensures.value c.block_octets.ensures.value

pub overflow_mul-result : goal.overflow_mul-result
overflow_mul-result c = omega (arith, (few c).1)

pub overflow_add-result-3 : goal.overflow_add-result-3
overflow_add-result-3 c = omega (arith, (few c).1)

pub overflow_add-result-4 : goal.overflow_add-result-4
overflow_add-result-4 c = omega (arith, (few c).1)

pub returns : goal.returns
returns c =
    let a = c.args in
    record {
      value = adds_new a.limit (omega arith) (omega arith) _ a.count _ _ _ c.numbers_in-most.ensures.value (omega arith)
          c.full_packets-full.ensures.value c.block_octets.ensures.value c.block_octets-last.ensures.value;
    }
