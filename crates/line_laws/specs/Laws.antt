-- Rules: "ccfbline". What the theorems about the program speak of: how its calls answer, the last
-- known time, the gap, and the calls that take a file.
use Rattle.std.specs.Prelude.{ℕ, ◌≤◌, ◌<◌, ◌≡◌, Result, Some, None, Ok, Err}
use mathlib.Core.List.{List, [], ◌∷◌, ◌++◌, foldl}
use Rattle.lists.specs.All.{All}
use Rattle.refusal.specs.declared.Refusal.{Refusal}
use Rattle.admission.specs.declared.ArrivalKind.{ArrivalKind}
use Rattle.arrivals.specs.Arrivals.{arrived}
use Rattle.arrival_record.specs.declared.Record.{Record}
use Rattle.recording.specs.Recorded.{Recorded, after_record}
use Rattle.line.specs.Printed.{fresh}
use Rattle.line_hex.specs.Hex.{newline}
use Rattle.line_gap.specs.Gap.{gap_text}
use Rattle.line_store.specs.Fresh.{fresh_places, fresh_cells}
use Rattle.line_laws.specs.Decimal.{InDecimal}
use Rattle.refusal.specs.declared.Refusal.TheVariants.{NoFreePlace, TooOld}
use Rattle.admission.specs.declared.ArrivalKind.TheVariants as kind
use Rattle.intake.specs.Intake as intake

-- a record is taken, or skipped with refusal 2 or 3
pub data Answered : Result ArrivalKind Refusal → Type 0 where
  accepted : (k : ArrivalKind) → Answered (Ok k)
  no_free_place : Answered (Err NoFreePlace)
  too_old : Answered (Err TooOld)

-- the last known time of records, which no known one follows; else 0
pub data LastTime (rs : List Record) : ℕ → Type 0 where
  none : All (λ r. r.time ≡ None) rs → LastTime rs 0
  last : (before : List Record) (r : Record) (later : List Record) (t : ℕ) → rs ≡ before ++ r ∷ later → r.time ≡ Some t
      → All (λ q. q.time ≡ None) later → LastTime rs t

-- the answer to a record, in the store that the records before it made
abbrev pub answer_to : Recorded → Record → Result ArrivalKind Refusal
answer_to x r = (arrived x.places x.cells r.ssrc r.number r.mark r.time).answer

-- it is accepted, is ahead, and passes over n numbers
pub record PassesOver (before : List Record) (r : Record) (n : ℕ) : Type 0 where
  pub is : answer_to (foldl after_record fresh before) r ≡ Ok (kind.Ahead n)

-- rule "Gap": no record passes over more numbers, and one passes over as many, unless the gap is 0
pub record GapIs (rs : List Record) (gap : ℕ) : Type 0 where
  pub most : (before : List Record) (r : Record) (later : List Record) (n : ℕ) → rs ≡ before ++ r ∷ later → PassesOver before r n → n ≤ gap
  pub attained : 0 < gap → (before : List Record) × ((r : Record) × ((later : List Record) × ((rs ≡ before ++ r ∷ later) × PassesOver before r gap)))

-- the text that is printed for these records, after their report: `gap N`, with N their gap in decimal
pub record PrintsGap (rs : List Record) (text : List ℕ) : Type 0 where
  pub gap : ℕ
  pub is : GapIs rs gap
  pub digits : List ℕ
  pub decimal : InDecimal gap digits
  pub line : text ≡ gap_text ++ (digits ++ newline)

-- what the calls of `feed` leave that take a file piece by piece into a fresh store of four places
abbrev pub fed_pieces : List (List ℕ) → intake.IntakeAfter
fed_pieces pieces = foldl intake.fed_next (intake.intake_after intake.at_start fresh_places fresh_cells []) pieces
