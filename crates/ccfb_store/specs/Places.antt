-- Rules: "Arrivals and the window", rules "Forgetting", "Place k" and "Oldest number". What the
-- calls for C that forget a stream, read a place and give its oldest number answer, 0 or the number
-- of a refusal, and what they leave in the places and behind their pointers.
use Rattle.std.specs.Prelude.{ℕ, List, [], ◌∷◌, Result, Ok, Err}
use Rattle.places.specs.After.{PlacesAfter, places_after}
use Rattle.refusal.specs.declared.Refusal.{Refusal}
use Rattle.places.specs.declared.Stream.{Stream}
use Rattle.ccfb_calls.specs.Called.{Called, called, refusal_number, refused_with}

-- 0, or the number of the refusal
abbrev pub forgetting_refusal : Result (Unit {0}) Refusal → ℕ
forgetting_refusal = refusal_number

-- `ccfb_forget`: the places after the call; the cells are not written
abbrev pub forget_called : PlacesAfter (Result (Unit {0}) Refusal) → PlacesAfter ℕ
forget_called o = places_after (forgetting_refusal o.answer) o.places

-- `ccfb_place`: SSRC and highest number, as they were where refused
abbrev pub place_called : Result Stream Refusal → List ℕ → Called
place_called (Ok s) before = called 0 (s.ssrc ∷ s.highest ∷ [])
place_called (Err e) before = refused_with e before

-- `ccfb_oldest`: the oldest number that arrived, as it was where refused
abbrev pub oldest_called : Result ℕ Refusal → List ℕ → Called
oldest_called (Ok n) before = called 0 (n ∷ [])
oldest_called (Err e) before = refused_with e before
