-- Rules: "Arrivals and the window", "Order of refusals". When the call for the oldest number of a
-- stream (rule "Oldest number") gives which answer, one case for each rule, for a store of any
-- lent content. Of several refusals that apply the first is given: 4, 5.
use Rattle.std.specs.Prelude.{ℕ, ◌+◌, ◌≤◌, ◌<◌, ◌≡◌, List, length, Option, Result, Some, None, Ok, Err}
use Rattle.refusal.specs.declared.Refusal.{Refusal}
use Rattle.ring.specs.Ring.{cells_of_a_place}
use Rattle.window.specs.Number.{distance_of}
use Rattle.places.specs.Place.{place_at}
use Rattle.places.specs.Shape.{Shaped, Misshapen}
use Rattle.place_window.specs.Window.{cell_at}
use Rattle.cells.specs.Cell.{read_cell}
use Rattle.cutting.specs.declared.Request.{Request}
use Rattle.refusal.specs.declared.Refusal.TheVariants.{BadStore, NotHeld}

-- the number b behind highest did not arrive: its cell is empty
abbrev pub NotArrived : List ℕ → ℕ → ℕ → ℕ → Type 0
NotArrived cells place highest b = read_cell (cell_at cells place (distance_of highest b)) ≡ None

-- the oldest number that arrived, of the window of a place that ends with highest
pub data OldestIs (cells : List ℕ) (place highest : ℕ) : ℕ → Type 0 where
  -- the number b behind highest arrived, and none of the window before it
  arrived : (b mark : ℕ) (time : Option ℕ) → b < cells_of_a_place → read_cell (cell_at cells place (distance_of highest b)) ≡ Some (record { mark = mark; time = time })
      → ((c : ℕ) → b < c → c < cells_of_a_place → NotArrived cells place highest c) → OldestIs cells place highest (distance_of highest b)
  -- none of the window arrived: highest
  none : ((c : ℕ) → c < cells_of_a_place → NotArrived cells place highest c) → OldestIs cells place highest highest

-- asking for the oldest number of the place k: 4, 5
pub data OldestGiven (places cells : List ℕ) (k : ℕ) : Result ℕ Refusal → Type 0 where
  bad_store : Misshapen places cells → OldestGiven places cells k (Err BadStore)
  not_there : Shaped places cells → length places ≤ k → OldestGiven places cells k (Err NotHeld)
  is_free : Shaped places cells → k < length places → place_at places k ≡ None → OldestGiven places cells k (Err NotHeld)
  held : Shaped places cells → (ssrc highest number : ℕ) → place_at places k ≡ Some (record { ssrc = ssrc; highest = highest }) → OldestIs cells k highest number
      → OldestGiven places cells k (Ok number)

-- the request for a stream's numbers that start at begin and end with highest
abbrev pub up_to_highest : ℕ → ℕ → ℕ → Request
up_to_highest ssrc highest begin = record { ssrc = ssrc; begin = begin; count = distance_of highest begin + 1 }
