use Prim.Native.Nat.{◌+◌, ◌-◌, ◌<◌}
use mathlib.Core.Path.{refl, sym, ◌∙◌}
use native.Mathlib.Omega.{arith}
use lib.ListN.{length, get_or}
use Rattle.cutting.proofs.Plan.{whole_fits, part_fits}
use Rattle.cutting.proofs.Requests.{no_request}
use Rattle.blocks.specs.Steps.{metric_in}
use Rattle.blocks.proofs.Blocks.{position, range_at, range_in, range_start, next_whole, next_part, next_closed}
use Rattle.blocks.proofs.Blocks.{next_past, block_here, filling_start, filling_room, filling_on, filling_done}
use borrow.Author.Rules.{rules}
use Rattle.blocks.proofs.put_blocks.Goals as goal

pub loop-i-init : goal.loop-i-init
loop-i-init c = (refl, search rules, c.requires.range, filling_start _ _ _ _ _)

pub overflow_sub-count : goal.overflow_sub-count
overflow_sub-count c =
    let r = c.args.report.now in
    range_at r.requests.now c.loop-i.i c.loop-i.reported c.loop-i-test.true c.loop-i.invariant.2

pub overflow_sub-room-in-Whole : goal.overflow_sub-room-in-Whole
overflow_sub-room-in-Whole c =
    omega (arith, whole_fits _ _ (sym c.next_block.ensures.value ∙ c.in-Whole.is), c.block_octets-size.ensures.value)

pub loop-i-preserved : goal.loop-i-preserved
loop-i-preserved c =
    let r = c.args.report.now in
    let d : c.loop-i.i < length r.requests.now = c.loop-i-test.true in
    let m = metric_in r in
    let rs = r.requests.now in
    let k = sym c.next_block.ensures.value ∙ c.in-Whole.is in
    let e = next_whole r.requests.now c.loop-i.i c.loop-i.reported c.loop-i.room _ d refl k in
    let z = c.block_octets-size.ensures.value in
    let b = block_here r.requests.now m c.loop-i.out _ c.loop-i.at c.loop-i.i c.loop-i.reported
    ((get_or r.requests.now c.loop-i.i no_request).count - c.loop-i.reported) _ d c.number_after-begin.ensures.value c.put_block.ensures.content in (
      c.put_block.auto.out ∙ c.loop-i.invariant.0,
      omega (arith, c.loop-i.invariant.1, whole_fits _ _ k),
      range_start r.requests.now (c.loop-i.i + 1),
      rw z (filling_on m rs _ _ _ _ _ _ c.loop-i.invariant.3 _ _ _ _ e b refl),
    )

pub put_block-requires : goal.put_block-requires
put_block-requires c =
    let r = c.args.report.now in
    let d : c.loop-i.i < length r.requests.now = c.loop-i-test.true in
    let m = metric_in r in
    let rs = r.requests.now in
    let e = next_whole r.requests.now c.loop-i.i c.loop-i.reported c.loop-i.room _ d refl
    (sym c.next_block.ensures.value ∙ c.in-Whole.is) in
    record {
      room = omega (arith, filling_room m rs _ _ _ _ _ _ c.loop-i.invariant.3 _ _ e, c.loop-i.invariant.0, c.requires.room);
      held = c.requires.prepared.held c.loop-i.i d;
    }

pub put_block-requires-in-Part : goal.put_block-requires-in-Part
put_block-requires-in-Part c =
    let r = c.args.report.now in
    let d : c.loop-i.i < length r.requests.now = c.loop-i-test.true in
    let m = metric_in r in
    let rs = r.requests.now in
    let e = next_part r.requests.now c.loop-i.i c.loop-i.reported c.loop-i.room _ d refl _ (sym c.next_block.ensures.value ∙ c.in-Part.is) in
    record {
      room = omega (arith, filling_room m rs _ _ _ _ _ _ c.loop-i.invariant.3 _ _ e, c.loop-i.invariant.0, c.requires.room);
      held = c.requires.prepared.held c.loop-i.i d;
    }

pub overflow_add-reported : goal.overflow_add-reported
overflow_add-reported c =
    omega (arith, part_fits _ _ _ (sym c.next_block.ensures.value ∙ c.in-Part.is))

pub returns-in-Part : goal.returns-in-Part
returns-in-Part c =
    let r = c.args.report.now in
    let d : c.loop-i.i < length r.requests.now = c.loop-i-test.true in
    let m = metric_in r in
    let rs = r.requests.now in
    let k = sym c.next_block.ensures.value ∙ c.in-Part.is in
    let j = c.in-Part.first in
    let e = next_part r.requests.now c.loop-i.i c.loop-i.reported c.loop-i.room _ d refl j k in
    let b = block_here r.requests.now m c.loop-i.out _ c.loop-i.at c.loop-i.i c.loop-i.reported j _ d
    c.number_after-begin.ensures.value c.put_block-in-Part.ensures.content in
    record {
      after = rw c.standing.ensures.value (filling_done m rs _ _ _ _ _ (position c.loop-i.i (c.loop-i.reported + j))
          (filling_on m rs _ _ _ _ _ _ c.loop-i.invariant.3 _ _ _ _ e b c.block_octets.ensures.value) refl
          (range_in r.requests.now c.loop-i.i (c.loop-i.reported + j) d (omega (arith, part_fits _ _ _ k))));
    }

pub returns-in-Closed : goal.returns-in-Closed
returns-in-Closed c =
    let r = c.args.report.now in
    let d : c.loop-i.i < length r.requests.now = c.loop-i-test.true in
    let m = metric_in r in
    let rs = r.requests.now in
    record {
      after = rw c.standing-in-Closed.ensures.value (filling_done m rs _ _ c.loop-i.at _ _ (position c.loop-i.i c.loop-i.reported) c.loop-i.invariant.3
          (next_closed r.requests.now c.loop-i.i c.loop-i.reported c.loop-i.room _ d refl (sym c.next_block.ensures.value ∙ c.in-Closed.is))
          c.loop-i.invariant.2);
    }

pub returns : goal.returns
returns c =
    let r = c.args.report.now in
    let rs = r.requests.now in
    record {
      after = rw c.standing-2.ensures.value
          (filling_done (metric_in r) rs _ _ c.loop-i.at _ _ (position (length rs) 0) c.loop-i.invariant.3
          (next_past rs c.loop-i.i c.loop-i.reported c.loop-i.room (omega arith)) (range_start rs (length rs)));
    }
