-- Rules: "Datagram", rules "Packets of a datagram" and "No datagram". What a datagram is, without
-- the walk that finds its packets: they are back to back, each is as long as its header says, and
-- only the last may have the padding flag.
use Rattle.std.specs.Prelude.{ℕ, ◌+◌, ◌≤◌, ◌<◌, ◌≡◌, length}
use mathlib.Core.List.{List, [], ◌∷◌, ◌++◌, flatten, drop_last}
use Rattle.lists.specs.All.{All}
use Rattle.packet.specs.Packet as packet
use Rattle.packet_header.specs.Header.{version_of, padding_of, format_of, type_of, length_of}
use Rattle.datagram.specs.declared.RtcpPacket.{RtcpPacket}

-- the header of any RTCP packet
abbrev pub rtcp_header_octets : ℕ
rtcp_header_octets = 4

-- an RTCP packet of any type: it has a header, its version is 2, and its octets are as many as the length field says
pub record IsPacket (p : List ℕ) : Type 0 where
  pub header : rtcp_header_octets ≤ length p
  pub version : version_of p ≡ packet.version
  pub words : length_of p ≡ length p

-- the padding flag is 0
abbrev pub NoPadding : List ℕ → Type 0
NoPadding p = padding_of p ≡ 0

-- the datagram s holds the packets ps: just these, back to back. A datagram of no octets holds none.
pub record HoldsPackets (s : List ℕ) (ps : List (List ℕ)) : Type 0 where
  pub joined : flatten ps ≡ s
  pub each : All IsPacket ps
  pub padding : All NoPadding (drop_last ps)

-- ---- where the packets stand

-- a packet that stands at an offset
abbrev pub placed_at : ℕ → List ℕ → RtcpPacket
placed_at at p = record { packet_type = type_of p; format = format_of p; at = at; size = length p }

-- packets back to back, starting at an offset
unfoldable pub placed : ℕ → List (List ℕ) → List RtcpPacket
placed at [] = []
placed at (p ∷ ps) = placed_at at p ∷ placed (at + length p) ps

-- ---- octets that are no datagram

-- no packets back to back make these octets
abbrev pub NoDatagram : List ℕ → Type 0
NoDatagram s = (ps : List (List ℕ)) → HoldsPackets s ps → ⊥

-- what is wrong: these octets do not start with a packet, or it is padded and does not end them
pub data NoPacketIn (rest : List ℕ) : Type 0 where
  few_octets : 0 < length rest → length rest < rtcp_header_octets → NoPacketIn rest
  other_version : rtcp_header_octets ≤ length rest → (version_of rest ≡ packet.version → ⊥) → NoPacketIn rest
  past_the_end : rtcp_header_octets ≤ length rest → length rest < length_of rest → NoPacketIn rest
  padded_early : rtcp_header_octets ≤ length rest → length_of rest < length rest → (NoPadding rest → ⊥) → NoPacketIn rest

-- after some packets without padding, which may be none, come octets with such a fault
pub record DatagramFault (s : List ℕ) : Type 0 where
  pub before : List (List ℕ)
  pub rest : List ℕ
  pub joined : flatten before ++ rest ≡ s
  pub each : All IsPacket before
  pub padding : All NoPadding before
  pub fault : NoPacketIn rest
