use mathlib.Core.Path.{sym}
use native.Mathlib.Omega.{arith}
use lib.Seq.{length-take-le}
use Rattle.line_report.specs.Report.{requested_text}
use Rattle.line_report.proofs.OnePacket.{Said, said, line_room_lem, put_nothing, put_packet, put_refused}
use Rattle.line_report.proofs.put_report.Goals.{After-write-answer}
use Rattle.line_report.proofs.put_report.Goals as goal

-- what the writer's answer says of the text
here : (c : After-write-answer)
    → let a = c.args in
    Said c.write-answer.result c.write-answer.new.out (requested_text a.places.now a.cells.now a.rts a.requests.now)
here c =
    said _ _ _ _ _ c.requires.few c.packet_room-packet.ensures.room c.requires.four _ _ c.write-answer.ensures.after

pub slice_bounds-packet-end : goal.slice_bounds-packet-end
slice_bounds-packet-end c =
    omega (arith, (here (goal.at.slice_bounds-packet-end c).After-write-answer).room _ _ c.in-Ok.is)

pub slice_bounds-put_line-end : goal.slice_bounds-put_line-end
slice_bounds-put_line-end c =
    sym (length-take-le _ _
    (omega (arith, (here (goal.at.slice_bounds-put_line-end c).After-write-answer).room _ _ c.in-Ok.is, c.write-answer.auto.out, c.packet_room-packet.ensures.room)))

pub put_line-requires : goal.put_line-requires
put_line-requires c =
    let args = c.args in
    record { room = line_room_lem _ _ args.out.now ((here (goal.at.put_line-requires c).After-write-answer).room _ _ c.in-Ok.is) c.requires.room }

pub returns-then-packets-eq0 : goal.returns-then-packets-eq0
returns-then-packets-eq0 c =
    let all = put_nothing _ _ ((here (goal.at.returns-then-packets-eq0 c).After-write-answer).none _ _ c.in-Ok.is c.if-packets-eq0.true) in record { after = all.0; bound = all.1 }

pub returns-else-packets-eq0 : goal.returns-else-packets-eq0
returns-else-packets-eq0 c =
    let is = c.in-Ok.is in
    let all = put_packet _ _ _ _ _ _ ((here (goal.at.returns-else-packets-eq0 c).After-write-answer).room _ _ is) ((here (goal.at.returns-else-packets-eq0 c).After-write-answer).line _ _ is c.if-packets-eq0.false) c.put_line.ensures.after in record { after = all.0; bound = all.1 }

pub returns-in-Err : goal.returns-in-Err
returns-in-Err c =
    let all = put_refused _ _ _ _ _ ((here (goal.at.returns-in-Err c).After-write-answer).refused _ c.in-Err.is) c.put_refusal.ensures.after in record { after = all.0; bound = all.1 }
