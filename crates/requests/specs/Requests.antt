-- Rules: "Requests", "Order of refusals". What is wrong with requests: for each in turn refusals 5,
-- 8, 9; the first fault counts.
use Rattle.std.specs.Prelude.{ℕ, List, [], ◌∷◌, ◌++◌, Result, Ok, Err}
use Rattle.cutting.specs.declared.Request.{Request}
use Rattle.request_check.specs.Check.{check_of}
use Rattle.refusal.specs.declared.Refusal.{Refusal}

abbrev pub and_then : Result ℕ Refusal → Result (Unit {0}) Refusal → Result (Unit {0}) Refusal
and_then (Ok p) v = v
and_then (Err e) v = Err e

-- requests that come after `earlier` ones
unfoldable pub checked : List ℕ → List Request → List Request → Result (Unit {0}) Refusal
checked places earlier [] = Ok tt
checked places earlier (r ∷ rs) = and_then (check_of places earlier r) (checked places (earlier ++ r ∷ []) rs)
