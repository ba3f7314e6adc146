-- Rules: "Arrivals and the window", "What a store means". Which streams a store holds, in the words
-- of the rules. `find_of` and `free_of` are the searches that decide it.
use Rattle.std.specs.Prelude.{ℕ, ◌<◌, ◌≡◌, List, length, Some, None}
use Rattle.places.specs.Place.{place_at}

-- the stream is held: p is the first place that holds it, and highest its highest number
pub record HeldAt (places : List ℕ) (ssrc p highest : ℕ) : Type 0 where
  pub holds : place_at places p ≡ Some (record { ssrc = ssrc; highest = highest })
  pub first : (k h : ℕ) → k < p → place_at places k ≡ Some (record { ssrc = ssrc; highest = h }) → ⊥

-- no place holds the stream
abbrev pub Unheld : List ℕ → ℕ → Type 0
Unheld places ssrc = (k h : ℕ) → place_at places k ≡ Some (record { ssrc = ssrc; highest = h }) → ⊥

-- a free place
pub record Vacant (places : List ℕ) (k : ℕ) : Type 0 where
  pub there : k < length places
  pub free : place_at places k ≡ None
