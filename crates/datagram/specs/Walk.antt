-- Rules: "Datagram", rule "No datagram". The walk over the packets of a datagram, which may be any
-- octets: header by header to the end, or to a fault. Faults, in the order of their tests:
--   1 to 3 octets are left
--   another version than 2
--   the length field reaches past the end
--   the padding flag is 1, and the packet does not end the datagram
use Rattle.std.specs.Prelude.{ℕ, zero, suc, ◌+◌, Bool, cond, ◌&&◌, List, [], ◌∷◌, length, take, drop, eqb, ltb}
use Rattle.packet.specs.Packet.{version}
use Rattle.packet_header.specs.Header.{differ, version_of, padding_of, format_of, type_of, length_of}
use Rattle.datagram.specs.Datagram.{rtcp_header_octets}
use Rattle.datagram.specs.declared.RtcpPacket.{RtcpPacket}
use Rattle.std.specs.Prelude.{Option, Result, Some, None, Ok, Err}
use Rattle.refusal.specs.declared.Refusal.{Refusal}
use Rattle.refusal.specs.declared.Refusal.TheVariants.{BadDatagram}

-- ---- the packet at an offset

-- the packet that stands at an offset, by its header: `rest` is the octets from there on
abbrev pub packet_here : List ℕ → ℕ → RtcpPacket
packet_here rest at = record { packet_type = type_of rest; format = format_of rest; at = at; size = length_of rest }

-- the padding flag, on a packet that octets follow
abbrev pub padded_inside : List ℕ → Bool
padded_inside rest = ltb (length_of rest) (length rest) && differ (padding_of rest) 0

-- what the octets from an offset on start with
abbrev pub front_of : List ℕ → ℕ → Result (Option RtcpPacket) Refusal
front_of rest at =
    cond (eqb (length rest) 0) (Ok None)
    (cond (ltb (length rest) rtcp_header_octets) (Err BadDatagram)
    (cond (differ (version_of rest) version) (Err BadDatagram)
    (cond (ltb (length rest) (length_of rest)) (Err BadDatagram)
    (cond (padded_inside rest) (Err BadDatagram)
    (Ok (Some (packet_here rest at)))))))

-- what stands at an offset of a datagram; at its length or beyond that is the end
unfoldable pub packet_at_of : List ℕ → ℕ → Result (Option RtcpPacket) Refusal
packet_at_of s at = front_of (drop at s) at

-- the part of the datagram that is a packet
abbrev pub packet_part : List ℕ → RtcpPacket → List ℕ
packet_part s p = take p.size (drop p.at s)

-- ---- the walk

-- the packets of a datagram, or that the walk came to a fault
pub data Parsed : Type 0 where
  packets : List RtcpPacket → Parsed
  broken : Parsed

abbrev pub in_front : RtcpPacket → Parsed → Parsed
in_front p (packets ps) = packets (p ∷ ps)
in_front p broken = broken

-- where a packet ends, and the next one starts
abbrev pub packet_end : RtcpPacket → ℕ
packet_end p = p.at + p.size

abbrev pub onward : Result (Option RtcpPacket) Refusal → (ℕ → Parsed) → Parsed
onward (Ok (Some p)) rest = in_front p (rest (packet_end p))
onward (Ok None) rest = packets []
onward (Err e) rest = broken

-- packet by packet, starting at an offset; n bounds the number of packets
unfoldable pub walk : ℕ → List ℕ → ℕ → Parsed
walk zero s at = packets []
walk (suc n) s at = onward (packet_at_of s at) (λ next. walk n s next)

-- each packet takes octets, so the octets bound their number
abbrev pub packets_from : List ℕ → ℕ → Parsed
packets_from s at = walk (length s) s at

-- the packets of a datagram
abbrev pub packets_of : List ℕ → Parsed
packets_of s = packets_from s 0
