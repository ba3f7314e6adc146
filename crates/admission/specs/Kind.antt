-- Rules: "Kinds of arrival". Which kind an accepted arrival is, for any lent content of a store.
use Rattle.std.specs.Prelude.{ℕ, ◌-◌, cond, List, Option, Some, None}
use Rattle.metric.specs.declared.Arrived.{Arrived}
use Rattle.window.specs.Number.{distance_of, is_ahead}
use Rattle.places.specs.Place.{highest_at}
use Rattle.place_window.specs.Window.{cell_at}
use Rattle.cells.specs.Cell.{read_cell}
use Rattle.admission.specs.declared.ArrivalKind.{ArrivalKind}
use Rattle.admission.specs.declared.ArrivalKind.TheVariants.{First, Ahead, Late, Copy}

-- an arrival that is not ahead, by what the cell of its number holds
abbrev pub kind_in : Option Arrived → ArrivalKind
kind_in None = Late
kind_in (Some a) = Copy

-- a later arrival of a stream, by f, how far its number is ahead of the highest, and by its cell
abbrev pub later_kind : ℕ → Option Arrived → ArrivalKind
later_kind f c = cond (is_ahead f) (Ahead (f - 1)) (kind_in c)

-- an arrival of a stream, by where the stream was found; what it says of a number that is too old is never asked
unfoldable pub kind_at : Option ℕ → List ℕ → List ℕ → ℕ → ArrivalKind
kind_at (Some p) places cells number = later_kind (distance_of number (highest_at places p)) (read_cell (cell_at cells p number))
kind_at None places cells number = First
