-- The steps of the code: what they find on the way to an answer. No statement for a caller needs these.
use Rattle.std.specs.Prelude.{ℕ, ◌+◌, length, Result, Ok, Err}
use Rattle.datagram.specs.Walk.{Parsed, packets, broken}
use Rattle.datagram.specs.Feedback.{feedback_of}
use Rattle.refusal.specs.declared.Refusal.TheVariants.{BadDatagram}
use Rattle.refusal.specs.declared.Refusal.{Refusal}

-- n CCFB packets, and those of the walk
abbrev pub counted : ℕ → Parsed → Result ℕ Refusal
counted n (packets ps) = Ok (n + length (feedback_of ps))
counted n broken = Err BadDatagram
