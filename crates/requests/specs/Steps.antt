-- The steps of the code: what `validate` notes beside its verdict. No statement for a caller needs these.
use Rattle.std.specs.Prelude.{ℕ, ◌<◌, ◌≡◌, List, [], length, get_or, Result, Some, Ok}
use Rattle.places.specs.Place.{find_of}
use Rattle.cutting.specs.Cutting.{stream_of}
use Rattle.cutting.specs.declared.Request.{Request}
use Rattle.refusal.specs.declared.Refusal.{Refusal}
use Rattle.requests.specs.Requests.{checked}

-- `found` has the place of each request's stream, in their order
abbrev pub FoundAll : List ℕ → List Request → List ℕ → Type 0
FoundAll places rs found = (i : ℕ) → i < length rs → find_of places (stream_of rs i) ≡ Some (get_or found i 0)

-- what validating requests answers, and the places that it found
pub record Validated (places : List ℕ) (rs : List Request) (found : List ℕ) (v : Result (Unit {0}) Refusal) : Type 0 where
  pub answer : v ≡ checked places [] rs
  pub places_found : v ≡ Ok tt → FoundAll places rs found
