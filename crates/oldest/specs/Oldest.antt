-- Rules: "Arrivals and the window", rule "Oldest number". The oldest sequence number of a stream's
-- window that arrived, of any lent content of a store.
use Rattle.std.specs.Prelude.{ℕ, ◌-◌, Bool, true, false, cond, List, Option, Result, Some, None, Ok, Err}
use Rattle.lists.specs.First.{first_from}
use Rattle.metric.specs.declared.Arrived.{Arrived}
use Rattle.refusal.specs.declared.Refusal.{Refusal}
use Rattle.places.specs.declared.Stream.{Stream}
use Rattle.ring.specs.Ring.{cells_of_a_place}
use Rattle.window.specs.Number.{distance_of}
use Rattle.places.specs.Place.{place_at}
use Rattle.places.specs.Shape.{shaped}
use Rattle.place_window.specs.Window.{cell_at}
use Rattle.cells.specs.Cell.{read_cell}
use Rattle.refusal.specs.declared.Refusal.TheVariants.{BadStore, NotHeld}

-- the numbers of the window that ends with highest, in rising order: number i, from 0, is
-- 2,047 - i behind highest
abbrev pub window_number : ℕ → ℕ → ℕ
window_number highest i = distance_of highest (cells_of_a_place - 1 - i)

abbrev pub is_filled : Option Arrived → Bool
is_filled None = false
is_filled (Some a) = true

-- number i of the window of a place arrived: its cell is filled
abbrev pub has_arrived : List ℕ → ℕ → ℕ → ℕ → Bool
has_arrived cells place highest i = is_filled (read_cell (cell_at cells place (window_number highest i)))

-- the number that a search found; highest where it found none
abbrev pub number_found : ℕ → Option ℕ → ℕ
number_found highest (Some i) = window_number highest i
number_found highest None = highest

-- the first number of the window, in rising order, that arrived; highest where none did
unfoldable pub oldest_in : List ℕ → ℕ → ℕ → ℕ
oldest_in cells place highest = number_found highest (first_from (has_arrived cells place highest) 0 cells_of_a_place)

-- of the stream of place k: refusals 4, 5
abbrev pub oldest_at : List ℕ → ℕ → Option Stream → Result ℕ Refusal
oldest_at cells k None = Err NotHeld
oldest_at cells k (Some s) = Ok (oldest_in cells k s.highest)

abbrev pub oldest_of : List ℕ → List ℕ → ℕ → Result ℕ Refusal
oldest_of places cells k = cond (shaped places cells) (oldest_at cells k (place_at places k)) (Err BadStore)
