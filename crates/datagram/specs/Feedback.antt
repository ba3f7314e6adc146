-- Rules: "Datagram", rules "CCFB packets" and "CCFB packet k". Which packets of a datagram are CCFB
-- packets, by their headers alone, and which is packet k.
use Rattle.std.specs.Prelude.{ℕ, ◌≡◌, Bool, true, ◌&&◌, List, ◌∷◌, ◌++◌, length, eqb}
use Rattle.lists.specs.Kept.{kept}
use Rattle.packet.specs.Packet as packet
use Rattle.packet_header.specs.Header.{format_of, type_of}
use Rattle.datagram.specs.declared.RtcpPacket.{RtcpPacket}

-- type 205 and FMT 11
abbrev pub is_ccfb : ℕ → ℕ → Bool
is_ccfb type format = eqb type packet.packet_type_of && eqb format packet.format

-- a packet that a walk found, and one as octets
abbrev pub found_is_ccfb : RtcpPacket → Bool
found_is_ccfb p = is_ccfb p.packet_type p.format

abbrev pub octets_are_ccfb : List ℕ → Bool
octets_are_ccfb p = is_ccfb (type_of p) (format_of p)

-- the CCFB packets among those that a walk found
abbrev pub feedback_of : List RtcpPacket → List RtcpPacket
feedback_of ps = kept found_is_ccfb ps

-- the CCFB packets among packets as octets
abbrev pub feedback_in : List (List ℕ) → List (List ℕ)
feedback_in ps = kept octets_are_ccfb ps

-- p is CCFB packet k, from 0, of the packets ps: it is one of them, and k CCFB packets stand before it
pub record KthFeedback (ps : List (List ℕ)) (k : ℕ) (p : List ℕ) : Type 0 where
  pub before : List (List ℕ)
  pub after : List (List ℕ)
  pub order : ps ≡ before ++ p ∷ after
  pub ccfb : octets_are_ccfb p ≡ true
  pub count : length (feedback_in before) ≡ k
