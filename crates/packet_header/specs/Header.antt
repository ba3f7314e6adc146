-- Rules: "Reader", rule "Header". The header of a packet, which may be any octets. Its refusals, in
-- the order of their tests:
--   21   fewer than 12 octets
--   22   another version than 2
--   23   another type than 205, or another FMT than 11
--   24   the length field says another length than that of the octets
--   25   the padding flag is 1
use Rattle.std.specs.Prelude.{ℕ, ◌+◌, ◌*◌, ◌/◌, ◌%◌, Bool, cond, not, List, length, get_or, eqb, ltb, Result, Ok, Err}
use Rattle.octets.specs.Octets.{be16}
use Rattle.packet.specs.Packet.{version, format, packet_type_of, version_unit, padding_unit}
use Rattle.packet.specs.Sizes.{word_octets, packet_header_octets, packet_frame}
use Rattle.packet_header.specs.declared.Cursor.{Cursor}
use Rattle.refusal.specs.declared.Refusal.{Refusal}
use Rattle.refusal.specs.declared.Refusal.TheVariants.{PacketTooShort, BadVersion, BadType, BadLength, Padded}

abbrev pub differ : ℕ → ℕ → Bool
differ a b = not (eqb a b)

-- octet 0: version, padding flag, FMT; octet 1: type; octets 2 and 3: one less than the 32-bit
-- words
abbrev pub version_of : List ℕ → ℕ
version_of s = get_or s 0 0 / version_unit

abbrev pub padding_of : List ℕ → ℕ
padding_of s = get_or s 0 0 / padding_unit % 2

abbrev pub format_of : List ℕ → ℕ
format_of s = get_or s 0 0 % padding_unit

abbrev pub type_of : List ℕ → ℕ
type_of s = get_or s 1 0

-- how many octets the length field says that the packet has
abbrev pub length_of : List ℕ → ℕ
length_of s = word_octets * (be16 s 2 + 1)

-- refusals 21 to 25; a sound header leads to the first block, at octet 8
unfoldable pub start_of : List ℕ → Result Cursor Refusal
start_of s =
    cond (ltb (length s) packet_frame) (Err PacketTooShort)
    (cond (differ (version_of s) version) (Err BadVersion)
    (cond (differ (type_of s) packet_type_of) (Err BadType)
    (cond (differ (format_of s) format) (Err BadType)
    (cond (differ (length_of s) (length s)) (Err BadLength)
    (cond (differ (padding_of s) 0) (Err Padded)
    (Ok (record { at = packet_header_octets })))))))
