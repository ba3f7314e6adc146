-- Rules: "ccfbline". What is printed once all of a file was taken, for any store: the report on
-- each held place and the gap, or the file's refusal.
use Rattle.std.specs.Prelude.{ℕ, ◌+◌, List, ◌++◌, Result, Ok, Err}
use Rattle.arrival_file.specs.File.{end_of}
use Rattle.refusal.specs.declared.Refusal.{Refusal}
use Rattle.intake.specs.declared.Intake.{Intake}
use Rattle.line_refusal.specs.Refused.{refused_line}
use Rattle.line_report.specs.Report.{line_room}
use Rattle.line_newest.specs.Newest.{report_text}
use Rattle.line_gap.specs.Gap.{gap_line, gap_room}

abbrev pub if_whole : Result (Unit {0}) Refusal → List ℕ → List ℕ
if_whole (Ok tt) text = text
if_whole (Err e) text = refused_line e

unfoldable pub finished_text : List ℕ → List ℕ → Intake → List ℕ
finished_text places cells i = if_whole (end_of i.phase i.left) (report_text places cells i.rts ++ gap_line i.gap)

-- room for the text: a line for the report, and one for the gap
abbrev pub text_room : ℕ
text_room = line_room + gap_room
