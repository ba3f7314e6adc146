use Prim.Native.Nat.{◌-◌}
use mathlib.Core.Path.{◌≡◌, refl, sym, ◌∙◌}
use native.Mathlib.Omega.{arith}
use lib.ListN.{length}
use Rattle.walk.specs.Walk.{walk_from}
use Rattle.walk.proofs.Steps.{inside, next_more}
use Rattle.reports.proofs.Within.{within, few_reports}
use Rattle.sent_feedback.specs.Steps.{NotStopped, blocks_taken}
use Rattle.sent_feedback.proofs.Steps.{block_sound, block_turn, blocks_end, blocks_never}
use borrow.Author.Rules.{rules}
use Rattle.sent_feedback.proofs.take_blocks.Goals as goal

pub loop-block-init : goal.loop-block-init
loop-block-init c = (refl, c.requires.sound, refl)

pub take_block-requires : goal.take_block-requires
take_block-requires c =
    let e = sym (rw c.in-Some.is at c.in_ok-block.ensures.value) in
    record {
      sized = c.loop-block.invariant.0 ∙ c.requires.sized;
      within = within _ _ _ _ e;
      few = few_reports _ _ _ _ e;
    }

pub loop-block-smaller : goal.loop-block-smaller
loop-block-smaller c =
    let e = sym (rw c.in-Some.is at c.in_ok-block.ensures.value) in
    omega (arith, inside _ _ _ _ e, next_more _ _ _ _ e)

pub loop-block-preserved : goal.loop-block-preserved
loop-block-preserved c =
    let a = c.args in
    let n = rw c.in-Some.is at c.in_ok-block.ensures.value in (
      c.take_block.auto.cells ∙ c.loop-block.invariant.0,
      block_sound a.places.now a.rts a.packet.now c.loop-block.cells _ _ n c.loop-block.invariant.1 _ _ refl,
      block_turn a.places.now a.rts a.packet.now c.loop-block.cells _ _ n c.loop-block.invariant.1 _ _ _ refl c.take_block.ensures.content ∙ c.loop-block.invariant.2,
    )

pub returns-in_err-block-clause-accepted : goal.returns-in_err-block-clause-accepted
returns-in_err-block-clause-accepted c =
    blocks_never c.args.places.now c.args.rts c.args.packet.now c.loop-block.cells _ _ c.in_err-block.ensures.value c.loop-block.invariant.1 _ refl

pub returns-in_err-block-clause-content : goal.returns-in_err-block-clause-content
returns-in_err-block-clause-content c =
    blocks_never c.args.places.now c.args.rts c.args.packet.now c.loop-block.cells _ _ c.in_err-block.ensures.value c.loop-block.invariant.1 _ refl

pub returns-clause-content : goal.returns-clause-content
returns-clause-content c =
    blocks_end _ _ _ _ _ _ (rw c.in_default.is at c.in_ok-block.ensures.value) c.loop-block.invariant.1 refl ∙ c.loop-block.invariant.2
