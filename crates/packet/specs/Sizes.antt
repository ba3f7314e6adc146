-- Rules: "Packet", rule "Sizes". How many octets blocks and packets take. The rules of `cutting`
-- read these too: they know how many reports each block has, and no octets.
use Rattle.std.specs.Prelude.{ℕ, ◌+◌, ◌*◌, ◌/◌, ◌^◌, List, [], ◌∷◌}

-- a block has at most so many reports
abbrev pub most_reports : ℕ
most_reports = 16384

-- blocks and packets are whole 32-bit words; the length field has 16 bits, and counts the words less one
abbrev pub word_octets : ℕ
word_octets = 4

abbrev pub most_octets : ℕ
most_octets = word_octets * 2 ^ 16

-- a packet's header: 16 bits that are the same in every packet, length, SSRC of the sender
abbrev pub packet_header_octets : ℕ
packet_header_octets = 8

-- a block's header: SSRC, begin_seq, num_reports
abbrev pub block_header_octets : ℕ
block_header_octets = 8

-- RTS, at the end of a packet
abbrev pub rts_octets : ℕ
rts_octets = 4

-- a block of n numbers: 8 + 2n octets, and 2 more where n is odd
abbrev pub block_octets : ℕ → ℕ
block_octets n = (block_header_octets + 2 * n + 3) / word_octets * word_octets

-- blocks of so many numbers each
abbrev pub blocks_octets : List ℕ → ℕ
blocks_octets [] = 0
blocks_octets (n ∷ ns) = block_octets n + blocks_octets ns

-- what a packet has besides its blocks: the header before them and RTS behind them
abbrev pub packet_frame : ℕ
packet_frame = packet_header_octets + rts_octets

-- a packet of such blocks
abbrev pub packet_octets : List ℕ → ℕ
packet_octets ns = packet_frame + blocks_octets ns
