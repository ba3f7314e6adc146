-- The steps of the code: what they find on the way to an answer. No statement for a caller needs these.
use Rattle.datagram.specs.Walk.{Parsed, packets, broken}
use Rattle.datagram.specs.declared.RtcpPacket.{RtcpPacket}
use Rattle.refusal.specs.declared.Refusal.TheVariants.{BadDatagram}
use Rattle.std.specs.Prelude.{Result, Ok, Err}
use Rattle.refusal.specs.declared.Refusal.{Refusal}

-- a packet that was found, if the walk behind it is not broken
abbrev pub found_before_of : RtcpPacket → Parsed → Result RtcpPacket Refusal
found_before_of p (packets ps) = Ok p
found_before_of p broken = Err BadDatagram
