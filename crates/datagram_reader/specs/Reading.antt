-- Rules: "Datagram", rule "CCFB packet k". The answer about CCFB packet k, from 0, of any octets: 31
-- if they are no datagram, 32 if it has no CCFB packet k, then the reader's refusals for that packet.
use Rattle.std.specs.Prelude.{ℕ, zero, suc, List, [], ◌∷◌, Result, Ok, Err}
use Rattle.std.specs.Borrow.{Bor}
use Rattle.refusal.specs.Numbers.{number_of}
use Rattle.reader.specs.Reading.{Decoded, packet, refused, decode_packet}
use Rattle.datagram.specs.Walk.{Parsed, packets, broken, packet_part, packets_of}
use Rattle.datagram.specs.Feedback.{feedback_of}
use Rattle.datagram.specs.declared.RtcpPacket.{RtcpPacket}
use Rattle.refusal.specs.declared.Refusal.TheVariants.{BadDatagram, NoPacket}
use Rattle.refusal.specs.declared.Refusal.{Refusal}

-- ---- CCFB packet k, by the headers

abbrev pub nth : List RtcpPacket → ℕ → Result RtcpPacket Refusal
nth [] k = Err NoPacket
nth (p ∷ ps) zero = Ok p
nth (p ∷ ps) (suc k) = nth ps k

abbrev pub located_feedback : Parsed → ℕ → Result RtcpPacket Refusal
located_feedback (packets ps) k = nth (feedback_of ps) k
located_feedback broken k = Err BadDatagram

-- ---- checked by the reader

-- a packet that was found, or the reader's refusal of its octets
abbrev pub accepted_as : RtcpPacket → Decoded → Result RtcpPacket Refusal
accepted_as p (packet q) = Ok p
accepted_as p (refused e) = Err e

abbrev pub checked : List ℕ → Result RtcpPacket Refusal → Result RtcpPacket Refusal
checked s (Ok p) = accepted_as p (decode_packet (packet_part s p))
checked s (Err e) = Err e

-- the answer
abbrev pub read_feedback : List ℕ → ℕ → Result RtcpPacket Refusal
read_feedback s k = checked s (located_feedback (packets_of s) k)

-- ---- as a part of the datagram

-- its octets; none where it is refused
abbrev pub feedback_part : Result RtcpPacket Refusal → List ℕ → List ℕ
feedback_part (Ok p) s = packet_part s p
feedback_part (Err e) s = []

-- the number of its refusal; 0 where it is found
abbrev pub feedback_refusal : Result RtcpPacket Refusal → ℕ
feedback_refusal (Ok p) = 0
feedback_refusal (Err e) = number_of e

-- its octets, or the refusal
abbrev pub found_part : Result RtcpPacket Refusal → List ℕ → Result (List ℕ) Refusal
found_part (Ok p) s = Ok (packet_part s p)
found_part (Err e) s = Err e

-- the answer
abbrev pub read_part : List ℕ → ℕ → Result (List ℕ) Refusal
read_part s k = found_part (read_feedback s k) s

-- a part that is lent, as its octets
abbrev pub lent_part : Result (Bor (List ℕ)) Refusal → Result (List ℕ) Refusal
lent_part (Ok p) = Ok p.now
lent_part (Err e) = Err e
