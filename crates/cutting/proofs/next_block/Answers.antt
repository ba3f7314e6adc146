use Rattle.std.proofs.Common.{sym, ap, ◌∙◌, arith}
use Rattle.cutting.specs.declared.NextBlock.TheVariants.{Part}
use Rattle.cutting.proofs.Plan.{next_whole, next_part, next_closed}
use Rattle.cutting.proofs.next_block.Goals as goal

pub returns-then-block_octets-room : goal.returns-then-block_octets-room
returns-then-block_octets-room c = record { value = sym (next_whole _ _ (omega arith)) }

pub returns-then-first-eq0 : goal.returns-then-first-eq0
returns-then-first-eq0 c = record { value = sym (next_closed _ _ (omega arith) (omega arith)) }

pub returns : goal.returns
returns c =
    record { value = ap Part c.numbers_in-first.ensures.value ∙ sym (next_part _ _ (omega arith) (omega arith)) }
