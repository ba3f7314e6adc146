-- Rules: "Refusals", "Order of refusals", "Kinds of arrival". When each call on the store gives
-- which answer, one case for each rule, for a store of any lent content. Of several refusals that
-- apply the first is given, in the order that stands at each call.
use Rattle.std.specs.Prelude.{ℕ, ◌-◌, ◌≤◌, ◌<◌, ◌≡◌, List, length, Option, Result, Some, None, Ok, Err}
use Rattle.refusal.specs.declared.Refusal.TheVariants.{BadMark, NoFreePlace, TooOld, BadStore, NotHeld}
use Rattle.admission.specs.declared.ArrivalKind.{ArrivalKind}
use Rattle.refusal.specs.declared.Refusal.{Refusal}
use Rattle.places.specs.declared.Stream.{Stream}
use Rattle.ring.specs.Ring.{cells_of_a_place}
use Rattle.window.specs.Number.{distance_of, farthest_ahead}
use Rattle.places.specs.Place.{place_at}
use Rattle.places.specs.Shape.{Shaped, Misshapen}
use Rattle.places.specs.After.{StoreAfter, PlacesAfter, places_after, store_after}
use Rattle.places.specs.Held.{Unheld, HeldAt, Vacant}
use Rattle.place_window.specs.Given.{Old}
use Rattle.place_window.specs.Window.{cell_at}
use Rattle.cells.specs.Cell.{read_cell}
use Rattle.arrivals.specs.Arrivals.{arrival_refused}
use Rattle.metric.specs.Metric.{congested}
use Rattle.admission.specs.declared.ArrivalKind.TheVariants as kind

-- the number is not ahead of the highest, and less than 2,048 behind it
pub record Recent (high number : ℕ) : Type 0 where
  pub not_ahead : 0 < distance_of number high → farthest_ahead < distance_of number high
  pub near : distance_of high number < cells_of_a_place

-- an arrival: 4, 1; 3 if the stream is held, else 2. A refused one leaves the store as it was. An accepted one is
-- answered with its kind
pub data ArrivalGiven (places cells : List ℕ) (ssrc number mark : ℕ) : StoreAfter (Result ArrivalKind Refusal) → Type 0 where
  bad_store : Misshapen places cells → ArrivalGiven places cells ssrc number mark (arrival_refused BadStore places cells)
  bad_mark : Shaped places cells → congested < mark → ArrivalGiven places cells ssrc number mark (arrival_refused BadMark places cells)
  too_old : Shaped places cells → mark ≤ congested → (p high : ℕ) → HeldAt places ssrc p high → Old high number
      → ArrivalGiven places cells ssrc number mark (arrival_refused TooOld places cells)
  no_free_place : Shaped places cells → mark ≤ congested → Unheld places ssrc → ((k : ℕ) → Vacant places k → ⊥)
      → ArrivalGiven places cells ssrc number mark (arrival_refused NoFreePlace places cells)
  ahead : Shaped places cells → mark ≤ congested → (p high : ℕ) → HeldAt places ssrc p high
      → 0 < distance_of number high → distance_of number high ≤ farthest_ahead → (places' cells' : List ℕ)
      → ArrivalGiven places cells ssrc number mark (store_after (Ok (kind.Ahead (distance_of number high - 1))) places' cells')
  late : Shaped places cells → mark ≤ congested → (p high : ℕ) → HeldAt places ssrc p high → Recent high number
      → read_cell (cell_at cells p number) ≡ None → (places' cells' : List ℕ)
      → ArrivalGiven places cells ssrc number mark (store_after (Ok kind.Late) places' cells')
  copy : Shaped places cells → mark ≤ congested → (p high : ℕ) → HeldAt places ssrc p high → Recent high number
      → (held : ℕ) (time : Option ℕ) → read_cell (cell_at cells p number) ≡ Some (record { mark = held; time = time }) → (places' cells' : List ℕ)
      → ArrivalGiven places cells ssrc number mark (store_after (Ok kind.Copy) places' cells')
  first : Shaped places cells → mark ≤ congested → Unheld places ssrc → (k : ℕ) → Vacant places k → (places' cells' : List ℕ)
      → ArrivalGiven places cells ssrc number mark (store_after (Ok kind.First) places' cells')

-- forgetting: 4, 5
pub data ForgettingGiven (places cells : List ℕ) (ssrc : ℕ) : PlacesAfter (Result (Unit {0}) Refusal) → Type 0 where
  bad_store : Misshapen places cells → ForgettingGiven places cells ssrc (places_after (Err BadStore) places)
  not_held : Shaped places cells → Unheld places ssrc → ForgettingGiven places cells ssrc (places_after (Err NotHeld) places)
  forgot : Shaped places cells → (p high : ℕ) → HeldAt places ssrc p high → (places' : List ℕ)
      → ForgettingGiven places cells ssrc (places_after (Ok tt) places')

-- asking for the place k: 4, 5
pub data PlaceGiven (places cells : List ℕ) (k : ℕ) : Result Stream Refusal → Type 0 where
  bad_store : Misshapen places cells → PlaceGiven places cells k (Err BadStore)
  not_there : Shaped places cells → length places ≤ k → PlaceGiven places cells k (Err NotHeld)
  is_free : Shaped places cells → k < length places → place_at places k ≡ None → PlaceGiven places cells k (Err NotHeld)
  held : Shaped places cells → (ssrc high : ℕ) → place_at places k ≡ Some (record { ssrc = ssrc; highest = high }) → PlaceGiven places cells k (Ok (record { ssrc = ssrc; highest = high }))
