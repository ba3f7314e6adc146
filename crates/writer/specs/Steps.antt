-- The steps of the code: what `check_call` answers. No statement for a caller of `write` needs this.
use Rattle.std.specs.Prelude.{ℕ, cond, List, ltb, Result, Ok, Err}
use Rattle.places.specs.Shape.{shaped}
use Rattle.cutting.specs.Limits.{least_limit, most_limit, most_requests}
use Rattle.refusal.specs.declared.Refusal.{Refusal}
use Rattle.refusal.specs.declared.Refusal.TheVariants.{BadStore, BadLimit, TooManyRequests}

-- a call on n requests, before they are looked at
abbrev pub call_checked : List ℕ → List ℕ → ℕ → ℕ → Result (Unit {0}) Refusal
call_checked places cells limit n =
    cond (shaped places cells)
    (cond (ltb limit least_limit) (Err BadLimit)
    (cond (ltb most_limit limit) (Err BadLimit)
    (cond (ltb most_requests n) (Err TooManyRequests) (Ok tt))))
    (Err BadStore)
