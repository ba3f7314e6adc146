use Rattle.std.proofs.Common.{◌≡◌, suc, ◌+◌, ◌-◌, rules, arith}
use Rattle.std.proofs.lemmas.Grind.{common_steps}
use Rattle.block_reader.specs.Steps.{after_blocks}
use Rattle.block_reader.proofs.Answers.{after_turn}
use Rattle.block_reader.proofs.after_blocks.Goals as goal

pub returns-in_err-next : goal.returns-in_err-next
returns-in_err-next c =
    let left : c.args.k - c.loop.counter ≡ suc (c.args.k - (c.loop.counter + 1)) = omega arith in
    record { value = rw (← c.loop.invariant, after_turn _ _ _ _ left, ← c.next.ensures.value, c.in_err-next.was) (search rules) }

pub returns-in_err-next-2 : goal.returns-in_err-next-2
returns-in_err-next-2 c =
    let left : c.args.k - c.loop.counter ≡ suc (c.args.k - (c.loop.counter + 1)) = omega arith in
    let none = c.in_err-next-2.ensures.ok_part in
    record { value = rw (← c.loop.invariant, after_turn _ _ _ _ left, ← c.next.ensures.value, c.in_ok-next.was, none) (search rules) }

pub loop-preserved : goal.loop-preserved
loop-preserved c =
    let left : c.args.k - c.loop.counter ≡ suc (c.args.k - (c.loop.counter + 1)) = omega arith in
    let some = c.in_ok-next-2.ensures.ok_part in
    rw (← c.loop.invariant, after_turn _ _ _ _ left, ← c.next.ensures.value, c.in_ok-next.was, some)

pub returns : goal.returns
unfolding after_blocks
returns c = record { value = rw (← c.loop.invariant) (grind (arith, common_steps)) }
