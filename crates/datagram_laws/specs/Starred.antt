-- Rules: "Cases at the edges". Those that are proved of datagrams, as one list.
use Rattle.std.specs.Prelude.{ℕ, ◌≡◌, List, [], ◌∷◌, ◌++◌, Result, Ok, Err}
use Rattle.packet.specs.Packet.{packet_type_of, format}
use Rattle.datagram.specs.Walk.{packets_of}
use Rattle.datagram_count.specs.Count.{count_of}
use Rattle.refusal.specs.declared.Refusal.{Refusal}
use Rattle.datagram.specs.declared.RtcpPacket.{RtcpPacket}
use Rattle.datagram_reader.specs.Reading.{read_feedback}
use Rattle.refusal.specs.declared.Refusal.TheVariants.{BadDatagram, NoPacket, Padded}

-- a CCFB packet without a block; the same with the padding flag; a generic NACK; a BYE of 4 octets
unfoldable pub ccfb : List ℕ
ccfb = 0x8b ∷ 205 ∷ 0 ∷ 2 ∷ 0 ∷ 0 ∷ 0 ∷ 0xf1 ∷ 0 ∷ 5 ∷ 0 ∷ 0 ∷ []

unfoldable pub padded : List ℕ
padded = 0xab ∷ 205 ∷ 0 ∷ 2 ∷ 0 ∷ 0 ∷ 0 ∷ 0xf1 ∷ 0 ∷ 5 ∷ 0 ∷ 0 ∷ []

unfoldable pub nack : List ℕ
nack = 0x81 ∷ 205 ∷ 0 ∷ 3 ∷ 0 ∷ 0 ∷ 0 ∷ 0xf1 ∷ 0 ∷ 0 ∷ 0x0a ∷ 1 ∷ 0 ∷ 7 ∷ 0 ∷ 0 ∷ []

unfoldable pub bye : List ℕ
bye = 0x80 ∷ 203 ∷ 0 ∷ 0 ∷ []

-- feedback of type 206, with FMT 11; a BYE of version 1; a BYE whose length field says 8 octets
unfoldable pub other : List ℕ
other = 0x8b ∷ 206 ∷ 0 ∷ 0 ∷ []

unfoldable pub old_version : List ℕ
old_version = 0x40 ∷ 203 ∷ 0 ∷ 0 ∷ []

unfoldable pub too_long : List ℕ
too_long = 0x80 ∷ 203 ∷ 0 ∷ 1 ∷ []

-- three octets of a packet
unfoldable pub cut : List ℕ
cut = 0x80 ∷ 203 ∷ 0 ∷ []

-- octets, how many CCFB packets they hold, and CCFB packet 0
pub record Case : Type 0 where
  pub octets : List ℕ
  pub feedback : Result ℕ Refusal
  pub first : Result RtcpPacket Refusal

abbrev pub CaseHolds : Case → Type 0
CaseHolds c = (count_of (packets_of c.octets) ≡ c.feedback) × (read_feedback c.octets 0 ≡ c.first)

abbrev pub case : List ℕ → Result ℕ Refusal → Result RtcpPacket Refusal → Case
case s n p = record { octets = s; feedback = n; first = p }

abbrev pub refused : List ℕ → Case
refused s = case s (Err BadDatagram) (Err BadDatagram)

-- CCFB packet 0 is the 12 octets at an offset
abbrev pub found_at : ℕ → Result RtcpPacket Refusal
found_at at = Ok (record { packet_type = packet_type_of; format = format; at = at; size = 12 })

unfoldable pub cases : List Case
cases =
    case [] (Ok 0) (Err NoPacket)
    ∷ case bye (Ok 0) (Err NoPacket)
    ∷ refused cut
    ∷ refused (bye ++ cut)
    ∷ refused (bye ++ old_version)
    ∷ refused (bye ++ too_long)
    ∷ case other (Ok 0) (Err NoPacket)
    ∷ case (bye ++ ccfb) (Ok 1) (found_at 4)
    ∷ case (nack ++ ccfb) (Ok 1) (found_at 16)
    ∷ case padded (Ok 1) (Err Padded)
    ∷ case (ccfb ++ padded) (Ok 2) (found_at 0)
    ∷ refused (padded ++ ccfb)
    ∷ refused (ccfb ++ cut)
    ∷ []
