use mathlib.Core.Path.{◌≡◌}
use native.Mathlib.Omega.{arith}
use Rattle.blocks.specs.Steps.{remaining, next_packet, metric_in}
use Rattle.packets.proofs.Packets.{packet_fits, packet_parts}
use Rattle.packets.proofs.write_packet.Goals as goal

pub put_header-requires-clause-room : goal.put_header-requires-clause-room
put_header-requires-clause-room c =
    let a = c.args in
    let r = a.report.now in
    let b = c.put_blocks-b.ensures.after in
    omega (
      arith,
      c.requires.room,
      c.put_blocks-b.auto.out,
      c.put32.auto.out,
      b.octets,
      packet_fits r.limit (remaining r.requests.now a.from) (omega (arith, c.requires.prepared)),
      c.requires.prepared.most,
    )

pub put_header-requires-clause-few : goal.put_header-requires-clause-few
put_header-requires-clause-few c =
    let a = c.args in
    let r = a.report.now in
    let b = c.put_blocks-b.ensures.after in
    omega (
      arith,
      c.requires.room,
      c.put_blocks-b.auto.out,
      c.put32.auto.out,
      b.octets,
      packet_fits r.limit (remaining r.requests.now a.from) (omega (arith, c.requires.prepared)),
      c.requires.prepared.most,
    )

pub returns : goal.returns
returns c =
    let a = c.args in
    let r = a.report.now in
    let b = c.put_blocks-b.ensures.after in
    let rs = r.requests.now in
    let left : remaining rs c.put_blocks-b.result.rest ≡ (next_packet r.limit rs a.from).rest = b.rest in
    record {
      after = record {
        content = packet_parts (metric_in r) rs r.sender
            r.rts (next_packet r.limit rs a.from).packet a.out.now _ _ _ _
            b.content b.octets c.put32.ensures.content c.put_header.ensures.content;
        rest = left;
        octets = omega (arith, b.octets);
        range = b.range;
      };
    }
