-- Rules: "Arrival file", "Refusals". What is wrong with the fields of a record: refusal 14.
use Rattle.std.specs.Prelude.{ℕ, Bool, not, ◌&&◌, ◌||◌, eqb, ltb}
use Rattle.metric.specs.Metric.{congested}

-- a mark of 4 or more, a flag of 2 or more, or a time where the flag says that there is none
unfoldable pub is_faulty : ℕ → ℕ → ℕ → Bool
is_faulty mark flag time = ltb congested mark || (ltb 1 flag || (eqb flag 0 && not (eqb time 0)))
