-- Rules: "Datagram", rule "Count". How many CCFB packets a datagram holds: its only refusal is 31.
use Rattle.std.specs.Prelude.{length, ℕ, Result, Ok, Err}
use Rattle.datagram.specs.Walk.{Parsed, packets, broken}
use Rattle.datagram.specs.Feedback.{feedback_of}
use Rattle.refusal.specs.declared.Refusal.TheVariants.{BadDatagram}
use Rattle.refusal.specs.declared.Refusal.{Refusal}

abbrev pub count_of : Parsed → Result ℕ Refusal
count_of (packets ps) = Ok (length (feedback_of ps))
count_of broken = Err BadDatagram
