use mathlib.Core.List.{◌++◌}
use Rattle.line_newest.specs.Newest.{report_text}
use Rattle.line_gap.specs.Gap.{gap_line}
use Rattle.line.specs.Line.{text_room, finished_text}
use Rattle.line.proofs.Ends.{whole_text, faulty_text, gap_behind, line_fits}
use Rattle.line_report.proofs.OnePacket.{put_refused, put_as}
use borrow.Author.Rules.{rules}
use Rattle.line.proofs.finish.Goals as goal

pub returns-in-Ok : goal.returns-in-Ok
returns-in-Ok c =
    let args = c.args in
    let places = args.places.now in
    let cells = args.cells.now in
    let out = args.out.now in
    let i = args.intake in
    let report = report_text places cells i.rts in
    let reported = c.report-n.ensures in
    let all = put_as out (finished_text places cells i) _ _ text_room (report ++ gap_line i.gap)
    (whole_text places cells i _ c.check_end.ensures.value c.in-Ok.is)
    (gap_behind out _ _ report _ _ i.gap reported.after reported.bound c.put_gap.ensures.after) in record { after = all.0; bound = all.1 }

pub returns-in-Err : goal.returns-in-Err
returns-in-Err c =
    let args = c.args in
    let places = args.places.now in
    let cells = args.cells.now in
    let out = args.out.now in
    let text = finished_text places cells args.intake in
    let all = line_fits out _ text _
    (put_refused out text _ _ _ (faulty_text places cells args.intake _ c.check_end.ensures.value _ c.in-Err.is)
    c.put_refusal.ensures.after) in record { after = all.0; bound = all.1 }
