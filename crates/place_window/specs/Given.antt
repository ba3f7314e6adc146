-- Rules: "Arrivals and the window", "Order of refusals". When a number of a stream is admitted to
-- its window, and when it is refused, in the words of the rules: 3 if the stream is held, else 2.
use Rattle.std.specs.Prelude.{ℕ, ◌≤◌, ◌<◌, List}
use Rattle.refusal.specs.declared.Refusal.{Refusal}
use Rattle.ring.specs.Ring.{cells_of_a_place}
use Rattle.window.specs.Number.{distance_of, farthest_ahead}
use Rattle.places.specs.After.{StoreAfter, store_after}
use Rattle.places.specs.Held.{Unheld, HeldAt, Vacant}
use Rattle.refusal.specs.declared.Refusal.TheVariants.{NoFreePlace, TooOld}

-- refusal 3: the number is not ahead of the highest, and it is 2,048 or more behind it
pub record Old (high number : ℕ) : Type 0 where
  pub not_ahead : 0 < distance_of number high → farthest_ahead < distance_of number high
  pub below : cells_of_a_place ≤ distance_of high number

-- a refused one leaves the store as it was
module _ {A : Type 0} (accepted : A) (refused : Refusal → A) where
  pub data AdmissionGiven (places cells : List ℕ) (ssrc number : ℕ) : StoreAfter A → Type 0 where
    too_old : (p high : ℕ) → HeldAt places ssrc p high → Old high number
        → AdmissionGiven places cells ssrc number (store_after (refused TooOld) places cells)
    no_free_place : Unheld places ssrc → ((k : ℕ) → Vacant places k → ⊥)
        → AdmissionGiven places cells ssrc number (store_after (refused NoFreePlace) places cells)
    later : (p high : ℕ) → HeldAt places ssrc p high → (Old high number → ⊥) → (places' cells' : List ℕ)
        → AdmissionGiven places cells ssrc number (store_after accepted places' cells')
    first : Unheld places ssrc → (k : ℕ) → Vacant places k → (places' cells' : List ℕ)
        → AdmissionGiven places cells ssrc number (store_after accepted places' cells')
