-- The steps of the code: what they find on the way to an answer. No statement for a caller needs these.
use Rattle.std.specs.Prelude.{ℕ, ◌+◌, length, Result, Ok, Err}
use Rattle.walk.specs.Walk.{Walked, walked, stopped}
use Rattle.refusal.specs.declared.Refusal.{Refusal}

-- n blocks, and those of the walk
abbrev pub counted : ℕ → Walked → Result ℕ Refusal
counted n (walked bs) = Ok (n + length bs)
counted n (stopped e) = Err e
