use Rattle.std.proofs.Common.{sym, ◌∙◌, arith}
use Rattle.cutting.proofs.Plan.{after_sum}
use Rattle.cutting.proofs.number_after.Goals as goal

pub returns : goal.returns
returns c =
    record { value = c.wrapping_add_u16.ensures.value ∙ sym (after_sum c.args.begin c.args.j (omega arith)) }
