-- Rules: "ccfbline", rule "Newest four". The report that is printed, for any store: for each held
-- place in turn, the four numbers that end with the highest.
use Rattle.std.specs.Prelude.{ℕ, ◌-◌, List, [], ◌∷◌, Option, Some, None}
use Rattle.line_report.specs.Report.{newest_numbers, requested_lines, requested_text}
use Rattle.window.specs.Number.{distance_of}
use Rattle.places.specs.Place.{read_place}
use Rattle.places.specs.declared.Stream.{Stream}
use Rattle.cutting.specs.declared.Request.{Request}

-- the four numbers that end with the highest
abbrev pub newest_four : ℕ → ℕ → Request
newest_four ssrc highest = record { ssrc = ssrc; begin = distance_of highest (newest_numbers - 1); count = newest_numbers }

abbrev pub asked_of : Option Stream → List Request → List Request
asked_of None rs = rs
asked_of (Some s) rs = newest_four s.ssrc s.highest ∷ rs

unfoldable pub newest : List ℕ → List Request
newest [] = []
newest (word ∷ places) = asked_of (read_place word) (newest places)

-- ---- the report

abbrev pub report_lines : List ℕ → List ℕ → ℕ → List ℕ
report_lines places cells rts = requested_lines places cells rts (newest places)

abbrev pub report_text : List ℕ → List ℕ → ℕ → List ℕ
report_text places cells rts = requested_text places cells rts (newest places)
