use Rattle.std.proofs.Common.{arith}
use Rattle.places.proofs.Shape.{ready_found}
use Rattle.sound_writer.proofs.Room.{found_packets, put_short, put_whole}
use Rattle.sound_writer.proofs.write_sound.Goals as goal

pub returns-then-out-need : goal.returns-then-out-need
returns-then-out-need c =
    record { after = put_short _ _ c.args.out.now _ c.measure-need.ensures.value c.if-out-need.true }

pub write_packets-requires : goal.write_packets-requires
write_packets-requires c =
    let sound = c.requires.sound in
    record {
      prepared = record {
        least = sound.least;
        most = sound.most;
        few = sound.few;
        found_all = sound.found_all;
        held = λ i l.
            let r = ready_found c.args.places.now c.args.report.now.cells.now _ _ sound.shape (sound.held i l) in
            omega (arith, r.there, r.sized);
      };
      room = omega (arith, c.measure-need.ensures.value.octets, c.if-out-need.false);
    }

pub returns : goal.returns
returns c =
    let r = c.args.report.now in
    let sound = c.requires.sound in
    record {
      after = put_whole _ _ c.args.out.now _ c.measure-need.ensures.value _ _ c.if-out-need.false
          (found_packets c.args.places.now r.cells.now r.found.now r.sender r.rts r.limit r.requests.now sound.least sound.held)
          c.write_packets.ensures.content;
    }
