use Rattle.std.proofs.Common.{◌≡◌, sym, ap, ◌∙◌, rules, arith}
use Rattle.std.specs.Prelude.{None, Ok}
use Rattle.walk.proofs.Steps.{inside, next_more}
use Rattle.rewriter.proofs.Output.{block_turn, blocks_end, blocks_refused, block_here}
use Rattle.rewriter.proofs.rewrite_blocks.Goals as goal

pub rewrite_block-requires : goal.rewrite_block-requires
rewrite_block-requires c =
    let pre = c.requires.room in
    let h = block_here _ _ _ c.next.ensures.value _ _ (c.in-Ok-Some.is ∙ ap Ok c.in-Ok-Some.field-0-is) in
    record {
      here = h.0;
      held = h.1;
      room = omega (arith, c.loop-block.invariant.0, pre);
    }

pub loop-block-smaller : goal.loop-block-smaller
loop-block-smaller c =
    let e = sym c.next.ensures.value ∙ c.in-Ok-Some.is ∙ ap Ok c.in-Ok-Some.field-0-is in
    omega (arith, inside _ _ _ _ e, next_more _ _ _ _ e)

pub loop-block-preserved : goal.loop-block-preserved
loop-block-preserved c =
    let e = c.in-Ok-Some.is ∙ ap Ok c.in-Ok-Some.field-0-is in (
      c.rewrite_block.auto.out ∙ c.loop-block.invariant.0,
      block_turn _ _ _ c.next.ensures.value _ _ _ _ e c.rewrite_block.ensures.content ∙ c.loop-block.invariant.1,
    )

pub returns-in_default : goal.returns-in_default
returns-in_default c =
    let none : c.in_default.field-0 ≡ None = search rules in
    record { content = blocks_end _ _ _ c.next.ensures.value _ (c.in_default.is ∙ ap Ok none) ∙ c.loop-block.invariant.1 }

pub returns-in_default-2 : goal.returns-in_default-2
returns-in_default-2 c =
    record { content = blocks_refused _ _ _ c.next.ensures.value _ _ c.in_default.is ∙ c.loop-block.invariant.1 }
