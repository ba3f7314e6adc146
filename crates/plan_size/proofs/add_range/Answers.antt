use mathlib.Core.Path.{sym, ◌∙◌}
use native.Mathlib.Omega.{arith}
use Rattle.cutting.proofs.Plan.{whole_fits, part_fits}
use Rattle.plan_size.proofs.Division.{adds_whole, adds_part, adds_closed}
use Rattle.plan_size.proofs.add_range.Goals as goal

pub overflow_sub-result : goal.overflow_sub-result
overflow_sub-result c =
    let a = c.args in
    omega (arith, whole_fits a.room a.count (sym c.next_block.ensures.value ∙ c.in-Whole.is))

pub overflow_sub-count : goal.overflow_sub-count
overflow_sub-count c =
    let a = c.args in
    omega (arith, part_fits a.room a.count _ (sym c.next_block.ensures.value ∙ c.in-Part.is))

pub returns-in-Whole : goal.returns-in-Whole
returns-in-Whole c =
    let a = c.args in
    record {
      value = rw (c.block_octets.ensures.value, c.block_octets-in-Whole.ensures.value)
          (adds_whole a.limit (omega arith) a.room a.count (omega arith)
          (sym c.next_block.ensures.value ∙ c.in-Whole.is));
    }

pub returns-in-Part : goal.returns-in-Part
returns-in-Part c =
    let a = c.args in
    record {
      value = rw c.block_octets-in-Part.ensures.value
          (adds_part a.limit (omega arith) a.room a.count _ _ (omega arith)
          (sym c.next_block.ensures.value ∙ c.in-Part.is) c.add_packets-more.ensures.value);
    }

pub returns-in-Closed : goal.returns-in-Closed
returns-in-Closed c =
    let a = c.args in
    record { value = adds_closed a.limit (omega arith) a.room a.count _ (sym c.next_block.ensures.value ∙ c.in-Closed.is) c.add_packets.ensures.value }
