-- Rules: "Refusals", "Order of refusals". When the reader and the rewriter give each refusal: its
-- own condition holds, and that of none before it. The conditions are stated field by field,
-- without the walk that decides them.
use Rattle.std.specs.Prelude.{ℕ, ◌+◌, ◌*◌, ◌%◌, ◌<◌, ◌≤◌, ◌≡◌, ◌⊎◌, List, [], ◌∷◌, length}
use Rattle.refusal.specs.declared.Refusal.{Refusal}
use Rattle.octets.specs.Octets.{be16}
use Rattle.packet.specs.Packet.{Packet, version, format, packet_type_of}
use Rattle.packet.specs.Sizes.{most_reports, packet_header_octets, block_header_octets, packet_frame, block_octets}
use Rattle.packet_header.specs.Header.{version_of, padding_of, format_of, type_of, length_of}
use Rattle.walk.specs.Walk.{rts_at}
use Rattle.reader.specs.Reading.{packet, decode_packet}
use Rattle.packet_laws.specs.Asked.{metrics_of}
use Rattle.refusal.specs.declared.Refusal.TheVariants.{OutputTooShort, PacketTooShort, BadVersion, BadType, BadLength, Padded, RunsIntoRts, TooManyReports, FillerNotZero, NoBlock, NoNumber}

-- ---- the header

-- room for a header and RTS: 12 octets
abbrev pub Long : List ℕ → Type 0
Long s = packet_frame ≤ length s

-- version 2
abbrev pub Version : List ℕ → Type 0
Version s = version_of s ≡ version

-- type 205 and FMT 11
abbrev pub Typed : List ℕ → Type 0
Typed s = (type_of s ≡ packet_type_of) × (format_of s ≡ format)

-- the length field is that of the octets given
abbrev pub Words : List ℕ → Type 0
Words s = length_of s ≡ length s

-- the padding flag is 0
abbrev pub Unpadded : List ℕ → Type 0
Unpadded s = padding_of s ≡ 0

abbrev pub Sound : List ℕ → Type 0
Sound s = Long s × Version s × Typed s × Words s × Unpadded s

-- ---- a block at an offset (`rts_at s` is where RTS, the last four octets, begins)

abbrev pub num_reports_of : List ℕ → ℕ → ℕ
num_reports_of s at = be16 s (at + 6)

-- where the metrics of a block end; its filler, if it has one, stands there
abbrev pub metrics_end : List ℕ → ℕ → ℕ
metrics_end s at = at + block_header_octets + 2 * num_reports_of s at

-- header and metrics end before RTS, num_reports is at most 16,384, and the filler is zero
pub record SoundBlock (s : List ℕ) (at : ℕ) : Type 0 where
  pub header : at + block_header_octets ≤ rts_at s
  pub few : num_reports_of s at ≤ most_reports
  pub metrics : metrics_end s at ≤ rts_at s
  pub filler : num_reports_of s at % 2 ≡ 1 → be16 s (metrics_end s at) ≡ 0

-- sound blocks back to back, from an offset to another
pub data Walks (s : List ℕ) : ℕ → ℕ → Type 0 where
  here : {at : ℕ} → Walks s at at
  past : {at to : ℕ} → SoundBlock s at → Walks s (at + block_octets (num_reports_of s at)) to → Walks s at to

-- what is wrong with the block at an offset: room for its header, num_reports, room for its metrics, filler
pub data Fault (s : List ℕ) (at : ℕ) : Refusal → Type 0 where
  header_room : at < rts_at s → rts_at s < at + block_header_octets → Fault s at RunsIntoRts
  too_many_of : at + block_header_octets ≤ rts_at s → most_reports < num_reports_of s at → Fault s at TooManyReports
  metrics_room : at + block_header_octets ≤ rts_at s → num_reports_of s at ≤ most_reports → rts_at s < metrics_end s at
      → Fault s at RunsIntoRts
  filler_set : at + block_header_octets ≤ rts_at s → num_reports_of s at ≤ most_reports → metrics_end s at ≤ rts_at s
      → num_reports_of s at % 2 ≡ 1 → (be16 s (metrics_end s at) ≡ 0 → ⊥) → Fault s at FillerNotZero

-- ---- each refusal's condition, with none before it

-- the reader: 21 to 25, then block by block
pub data ReadingGiven (s : List ℕ) : Refusal → Type 0 where
  too_short_of : (Long s → ⊥) → ReadingGiven s PacketTooShort
  bad_version : Long s → (Version s → ⊥) → ReadingGiven s BadVersion
  bad_type : Long s → Version s → (Typed s → ⊥) → ReadingGiven s BadType
  bad_length : Long s → Version s → Typed s → (Words s → ⊥) → ReadingGiven s BadLength
  padded : Long s → Version s → Typed s → Words s → (Unpadded s → ⊥) → ReadingGiven s Padded
  in_block : {e : Refusal} (at : ℕ) → Sound s → Walks s packet_header_octets at → Fault s at e → ReadingGiven s e

-- block k: the reader's, then 29
pub data BlockGiven (s : List ℕ) (k : ℕ) : Refusal → Type 0 where
  reader : {e : Refusal} → ReadingGiven s e → BlockGiven s k e
  no_block : (p : Packet) → decode_packet s ≡ packet p → length p.blocks ≤ k → BlockGiven s k NoBlock

-- metric j of block k: block k's, then 30
pub data MetricGiven (s : List ℕ) (k j : ℕ) : Refusal → Type 0 where
  block : {e : Refusal} → BlockGiven s k e → MetricGiven s k j e
  no_number : (p : Packet) → decode_packet s ≡ packet p → k < length p.blocks → length (metrics_of p.blocks k) ≤ j
      → MetricGiven s k j NoNumber

-- the rewriter: the reader's, then 10
pub data RewritingGiven (s out : List ℕ) : Refusal → Type 0 where
  reader : {e : Refusal} → ReadingGiven s e → RewritingGiven s out e
  too_short_of : (p : Packet) → decode_packet s ≡ packet p → length out < length s → RewritingGiven s out OutputTooShort

-- ---- the numbers that can come

-- a number of a list
abbrev pub OneOf : ℕ → List ℕ → Type 0
OneOf n [] = ⊥
OneOf n (m ∷ ms) = (n ≡ m) ⊎ OneOf n ms

-- the reader's
abbrev pub reader_numbers : List ℕ
reader_numbers = 21 ∷ 22 ∷ 23 ∷ 24 ∷ 25 ∷ 26 ∷ 27 ∷ 28 ∷ []
