-- Rules: "ccfbline". What is printed for a file: the report on a store of four places that took its
-- records and then the gap, or its first fault.
use Rattle.std.specs.Prelude.{ℕ, Result, Ok, Err}
use mathlib.Core.List.{List, ◌++◌, foldl}
use Rattle.refusal.specs.declared.Refusal.{Refusal}
use Rattle.arrival_record.specs.declared.Record.{Record}
use Rattle.arrival_file.specs.File.{file_of}
use Rattle.recording.specs.Recorded.{Recorded, recorded, after_record}
use Rattle.line_refusal.specs.Refused.{refused_line}
use Rattle.line_store.specs.Fresh.{fresh_places, fresh_cells}
use Rattle.line_newest.specs.Newest.{report_lines}
use Rattle.line_gap.specs.Gap.{gap_line}

-- a fresh store; before any record RTS is 0, and so is the gap
abbrev pub fresh : Recorded
fresh = recorded fresh_places fresh_cells 0 0

abbrev pub report_of : Recorded → List ℕ
report_of x = report_lines x.places x.cells x.rts ++ gap_line x.gap

abbrev pub printed_of : Result (List Record) Refusal → List ℕ
printed_of (Ok rs) = report_of (foldl after_record fresh rs)
printed_of (Err e) = refused_line e

unfoldable pub printed : List ℕ → List ℕ
printed file = printed_of (file_of file)
