-- Rules: "Sources", "Packet". A packet as data, and its octets. Reader, rewriter and writer share
-- these definitions.
use Rattle.std.specs.Prelude.{ℕ, ◌+◌, ◌-◌, ◌*◌, ◌/◌, ◌%◌, ◌^◌, ◌<◌, ◌≤◌, cond, List, [], ◌∷◌, ◌++◌, map, length, eqb}
use Rattle.lists.specs.All.{All}
use Rattle.octets.specs.Octets.{octets16, octets32}
use Rattle.packet.specs.Sizes.{word_octets, most_octets, packet_octets, most_reports}

-- a report block: the 16-bit metrics of the numbers starting at begin
pub record Block : Type 0 where
  pub ssrc : ℕ
  pub begin : ℕ
  pub metrics : List ℕ

pub record Packet : Type 0 where
  pub sender : ℕ
  pub rts : ℕ
  pub blocks : List Block

-- how many reports each block has
abbrev pub report_counts : List Block → List ℕ
report_counts bs = map (λ (b : Block). length b.metrics) bs

-- ---- octets

unfoldable pub encode_metrics : List ℕ → List ℕ
encode_metrics [] = []
encode_metrics (m ∷ ms) = octets16 m ++ encode_metrics ms

-- rule "Filler": two zero octets where the count of metrics is odd
unfoldable pub filler : ℕ → List ℕ
filler n = cond (eqb (n % 2) 0) [] (octets16 0)

-- SSRC, begin_seq, num_reports (rule "Count, not end")
abbrev pub block_header : ℕ → ℕ → ℕ → List ℕ
block_header ssrc begin n = octets32 ssrc ++ (octets16 begin ++ octets16 n)

unfoldable pub encode_block : Block → List ℕ
encode_block b =
    block_header b.ssrc b.begin (length b.metrics) ++ (encode_metrics b.metrics ++ filler (length b.metrics))

unfoldable pub encode_blocks : List Block → List ℕ
encode_blocks [] = []
encode_blocks (b ∷ bs) = encode_block b ++ encode_blocks bs

-- the fields of the first two octets: version (2 bits), padding flag, FMT (5 bits); type
abbrev pub version : ℕ
version = 2

abbrev pub format : ℕ
format = 11

abbrev pub packet_type_of : ℕ
packet_type_of = 205

-- the lowest bit of the version, and the padding flag, in the first octet
abbrev pub version_unit : ℕ
version_unit = 64

abbrev pub padding_unit : ℕ
padding_unit = 32

-- where the SSRC of the sender stands
abbrev pub sender_at : ℕ
sender_at = 4

-- the first octet of a packet without padding
abbrev pub first_octet : ℕ
first_octet = version_unit * version + format

-- the first octet; type; the length field, one less than the 32-bit words of the packet; SSRC of
-- the sender
abbrev pub packet_header : ℕ → ℕ → List ℕ
packet_header octets sender = first_octet ∷ packet_type_of ∷ (octets16 (octets / word_octets - 1) ++ octets32 sender)

unfoldable pub encode_packet : Packet → List ℕ
encode_packet p =
    packet_header (packet_octets (report_counts p.blocks)) p.sender ++ (encode_blocks p.blocks ++ octets32 p.rts)

-- ---- packets whose fields fit: each in its bits, at most 16,384 reports a block, a length field of 16 bits

pub record FitBlock (b : Block) : Type 0 where
  pub ssrc : b.ssrc < 2 ^ 32
  pub begin : b.begin < 2 ^ 16
  pub few : length b.metrics ≤ most_reports
  pub metrics : All (λ m. m < 2 ^ 16) b.metrics

pub record Fit (p : Packet) : Type 0 where
  pub sender : p.sender < 2 ^ 32
  pub rts : p.rts < 2 ^ 32
  pub blocks : All FitBlock p.blocks
  pub words : packet_octets (report_counts p.blocks) ≤ most_octets
