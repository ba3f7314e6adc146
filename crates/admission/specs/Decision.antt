-- The steps of the code: what is decided of an arrival before anything is changed. A caller goes by
-- `arrived` (arrivals/specs/Arrivals.antt), and `carried` (arrivals/proofs/Carried.antt) ties the two.
use Rattle.std.specs.Prelude.{ℕ, ◌-◌, ◌<◌, ◌≤◌, cond, List, ltb, Option, Result, Some, None, Ok, Err}
use Rattle.admission.specs.declared.ArrivalKind.{ArrivalKind}
use Rattle.refusal.specs.declared.Refusal.{Refusal}
use Rattle.admission.specs.declared.Entry.{Entry}
use Rattle.metric.specs.declared.Arrived.{Arrived}
use Rattle.admission.specs.declared.Entry.TheVariants as entry
use Rattle.metric.specs.Metric.{congested}
use Rattle.window.specs.Number.{move_of}
use Rattle.window.specs.declared.Move.{Move}
use Rattle.places.specs.Place.{highest_at, find_of, free_of}
use Rattle.places.specs.Shape.{shaped, Ready}
use Rattle.place_window.specs.Window.{cell_at}
use Rattle.cells.specs.Cell.{read_cell}
use Rattle.refusal.specs.declared.Refusal.TheVariants.{BadMark, NoFreePlace, TooOld, BadStore}
use Rattle.window.specs.declared.Move.TheVariants as move
use Rattle.admission.specs.declared.ArrivalKind.TheVariants as kind

-- a number of the window of place p, by what its cell holds
abbrev pub decided_in : ℕ → Option Arrived → Result Entry Refusal
decided_in p None = Ok (entry.Late p)
decided_in p (Some a) = Ok (entry.Copy p)

-- by how the number moves the window
abbrev pub decided_by : ℕ → Move → Option Arrived → Result Entry Refusal
decided_by p (move.Ahead f) c = Ok (entry.Ahead p f)
decided_by p (move.Within b) c = decided_in p c
decided_by p move.TooOld c = Err TooOld

-- of the stream that place p holds
unfoldable pub decided_later : List ℕ → List ℕ → ℕ → ℕ → Result Entry Refusal
decided_later places cells p number = decided_by p (move_of (highest_at places p) number) (read_cell (cell_at cells p number))

-- of a stream that no place holds, by the free place
abbrev pub decided_new : Option ℕ → Result Entry Refusal
decided_new (Some p) = Ok (entry.First p)
decided_new None = Err NoFreePlace

abbrev pub decided_at : Option ℕ → List ℕ → List ℕ → ℕ → Result Entry Refusal
decided_at (Some p) places cells number = decided_later places cells p number
decided_at None places cells number = decided_new (free_of places)

-- the first tests: refusals 4 and 1
unfoldable pub screened : List ℕ → List ℕ → ℕ → Result (Unit {0}) Refusal
screened places cells mark =
    cond (shaped places cells)
    (cond (ltb congested mark) (Err BadMark) (Ok tt))
    (Err BadStore)

unfoldable pub decided : List ℕ → List ℕ → ℕ → ℕ → ℕ → Result Entry Refusal
decided places cells ssrc number mark =
    cond (shaped places cells)
    (cond (ltb congested mark) (Err BadMark) (decided_at (find_of places ssrc) places cells number))
    (Err BadStore)

-- the answer to an arrival of which this was decided
abbrev pub arrival_answer : Result Entry Refusal → Result ArrivalKind Refusal
arrival_answer (Ok (entry.First p)) = Ok kind.First
arrival_answer (Ok (entry.Ahead p f)) = Ok (kind.Ahead (f - 1))
arrival_answer (Ok (entry.Late p)) = Ok kind.Late
arrival_answer (Ok (entry.Copy p)) = Ok kind.Copy
arrival_answer (Err e) = Err e

-- what is decided can be carried out: the place is there, one that is ahead is ahead by at least one number, and a
-- copy's mark is one of the four
abbrev pub Fits : List ℕ → List ℕ → ℕ → Result Entry Refusal → Type 0
Fits places cells mark (Ok (entry.First p)) = Ready places cells p
Fits places cells mark (Ok (entry.Ahead p f)) = Ready places cells p × (0 < f)
Fits places cells mark (Ok (entry.Late p)) = Ready places cells p
Fits places cells mark (Ok (entry.Copy p)) = Ready places cells p × (mark ≤ congested)
Fits places cells mark (Err e) = Unit {0}
