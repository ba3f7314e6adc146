use Prim.Native.Nat.{◌+◌, ◌≤◌}
use mathlib.Core.Path.{refl}
use native.Mathlib.Omega.{arith}
use borrow.Rule.Slice.PartMut.{mid_len}
use lib.ListN.{length}
use Rattle.packet.specs.Sizes.{packet_octets}
use Rattle.cutting.specs.Cutting.{counts}
use Rattle.blocks.specs.Steps.{next_packet, metric_in}
use Rattle.blocks.proofs.Blocks.{range_start}
use Rattle.packets.proofs.Packets.{plan_start, plan_on, plan_less, plan_over, writing_start, writing_room, writing_on, writing_done}
use borrow.Author.Rules.{rules}
use Rattle.packets.proofs.write_packets.Goals.{In-loop-from}
use Rattle.packets.proofs.write_packets.Goals as goal

-- the next packet has room
room : (c : In-loop-from)
    → let args = c.args in
    c.loop-from.end + packet_octets (counts (next_packet args.report.now.limit args.report.now.requests.now c.loop-from.from).packet) ≤ length
    c.loop-from.out
room c =
    let r = c.args.report.now in
    let e = plan_on r.requests.now r.limit c.requires.prepared.least c.loop-from.from _ c.loop-from-test.true refl in
    omega (
      arith,
      writing_room (metric_in r) r.requests.now
          r.sender r.rts _ c.loop-from.end _ _ _ c.loop-from.invariant.2 _ _ e,
      c.loop-from.invariant.0,
      c.requires.room,
    )

-- where the loop ends, no request is left
pub returns : goal.returns
returns c =
    let r = c.args.report.now in
    let past : length r.requests.now ≤ c.loop-from.from.request = c.loop-from-test.false in
    record {
      content = writing_done (metric_in r) r.requests.now r.sender r.rts _ c.loop-from.end _ _ _ c.loop-from.invariant.2
          (plan_over r.requests.now r.limit c.requires.prepared.least c.loop-from.from past);
    }

pub loop-from-init : goal.loop-from-init
loop-from-init c =
    let r = c.args.report.now in
    (refl, range_start r.requests.now 0, writing_start _ _ _ _ _ _ _ (plan_start r.requests.now r.limit c.requires.prepared.least))

pub slice_bounds-write_packet-count : goal.slice_bounds-write_packet-count
slice_bounds-write_packet-count c = omega (arith, room (goal.at.slice_bounds-write_packet-count c).In-loop-from)

pub write_packet-p-requires : goal.write_packet-p-requires
write_packet-p-requires c =
    record {
      prepared = c.requires.prepared;
      range = c.loop-from.invariant.1;
      room = omega (arith, room (goal.at.write_packet-p-requires c).In-loop-from, mid_len c.loop-from.end (length c.loop-from.out) c.loop-from.out (omega arith));
    }

pub overflow_add-end : goal.overflow_add-end
overflow_add-end c =
    let good = c.well_formed in
    omega (arith, room (goal.at.overflow_add-end c).In-loop-from, good, c.write_packet-p.ensures.after.octets, c.loop-from.invariant.0)

pub loop-from-smaller : goal.loop-from-smaller
loop-from-smaller c =
    let r = c.args.report.now in
    plan_less r.requests.now r.limit c.requires.prepared.least c.loop-from.from _ c.loop-from-test.true c.write_packet-p.ensures.after.rest

pub loop-from-preserved : goal.loop-from-preserved
loop-from-preserved c =
    let r = c.args.report.now in
    let l = c.loop-from in
    let p = c.write_packet-p.ensures.after in
    let e = plan_on r.requests.now r.limit c.requires.prepared.least l.from _ c.loop-from-test.true p.rest in (
      search rules,
      p.range,
      writing_on (metric_in r) r.requests.now r.sender
          r.rts _ l.end _ _ _ l.invariant.2 _ _ _ _ e (omega (arith, room (goal.at.loop-from-preserved c).In-loop-from)) p.octets p.content,
    )
