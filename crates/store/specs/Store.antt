-- Rules: "Arrivals and the window". What is asked of a store besides arrivals: each call, as its
-- answer and what it leaves, of any lent content.
use Rattle.std.specs.Prelude.{ℕ, cond, List, set, Option, Result, Some, None, Ok, Err}
use Rattle.places.specs.declared.Stream.{Stream}
use Rattle.refusal.specs.declared.Refusal.{Refusal}
use Rattle.places.specs.Place.{place_at, find_of}
use Rattle.places.specs.Shape.{shaped}
use Rattle.places.specs.After.{PlacesAfter, places_after}
use Rattle.refusal.specs.declared.Refusal.TheVariants.{BadStore, NotHeld}

-- ---- rule "Forgetting": refusals 4, 5

abbrev pub forgotten_at : Option ℕ → List ℕ → PlacesAfter (Result (Unit {0}) Refusal)
forgotten_at (Some p) places = places_after (Ok tt) (set places p 0)
forgotten_at None places = places_after (Err NotHeld) places

abbrev pub forgotten : List ℕ → List ℕ → ℕ → PlacesAfter (Result (Unit {0}) Refusal)
forgotten places cells ssrc =
    cond (shaped places cells) (forgotten_at (find_of places ssrc) places) (places_after (Err BadStore) places)

-- ---- rule "Place k", its stream and highest number: refusals 4, 5

abbrev pub answer_of : Option Stream → Result Stream Refusal
answer_of None = Err NotHeld
answer_of (Some s) = Ok (record { ssrc = s.ssrc; highest = s.highest })

abbrev pub place_of : List ℕ → List ℕ → ℕ → Result Stream Refusal
place_of places cells k = cond (shaped places cells) (answer_of (place_at places k)) (Err BadStore)
