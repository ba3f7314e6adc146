use Rattle.std.proofs.Common.{sym, ap, ◌∙◌, arith}
use Rattle.std.specs.Prelude.{Ok}
use Rattle.walk.proofs.Steps.{inside, next_more}
use Rattle.reader.proofs.Answers.{count_turn}
use Rattle.reader.proofs.count_blocks_from.Goals as goal

pub overflow_add-n : goal.overflow_add-n
overflow_add-n c =
    let e = sym c.next.ensures.value ∙ c.in_ok-next.was ∙ ap Ok c.in-Some.is in
    omega (arith, inside _ _ _ _ e)

pub loop-next-preserved : goal.loop-next-preserved
loop-next-preserved c =
    let turn = sym c.next.ensures.value ∙ c.in_ok-next.was ∙ ap Ok c.in-Some.is in
    (omega (arith, next_more _ _ _ _ turn), rw (← c.loop-next.invariant.1, count_turn _ c.loop-next.cursor.at c.loop-next.n, turn))
