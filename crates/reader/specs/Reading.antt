-- Rules: "Reader". What any octets are read as, a packet or the reader's first refusal, and the
-- answer about the whole: sender, RTS and number of blocks (rule "Whole packet").
use Rattle.std.specs.Prelude.{ℕ, zero, suc, ◌+◌, List, [], ◌∷◌, map, length, Result, Ok, Err}
use Rattle.refusal.specs.declared.Refusal.{Refusal}
use Rattle.octets.specs.Octets.{be16, be32}
use Rattle.packet.specs.Packet.{Block, Packet, sender_at}
use Rattle.walk.specs.Walk.{Walked, walked, stopped, walk_of, rts_at}
use Rattle.walk.specs.declared.ReportBlock.{ReportBlock}
use Rattle.reader.specs.declared.Summary.{Summary}

-- ---- what any octets are read as

pub data Decoded : Type 0 where
  packet : Packet → Decoded
  refused : Refusal → Decoded

-- n metrics, starting at an offset
unfoldable pub metrics_at_of : List ℕ → ℕ → ℕ → List ℕ
metrics_at_of s at zero = []
metrics_at_of s at (suc n) = be16 s at ∷ metrics_at_of s (at + 2) n

-- a block that was walked, as data
abbrev pub block_in : List ℕ → ReportBlock → Block
block_in s b = record { ssrc = b.ssrc; begin = b.begin_seq; metrics = metrics_at_of s b.metrics_at b.num_reports }

-- the packet of octets in which these blocks were walked
abbrev pub packet_in : List ℕ → List ReportBlock → Packet
packet_in s bs = record { sender = be32 s sender_at; rts = be32 s (rts_at s); blocks = map (block_in s) bs }

abbrev pub decoded : Walked → List ℕ → Decoded
decoded (walked bs) s = packet (packet_in s bs)
decoded (stopped e) s = refused e

-- the packet of any octets, or the first refusal
unfoldable pub decode_packet : List ℕ → Decoded
decode_packet s = decoded (walk_of s) s

-- ---- sender, RTS and number of blocks

abbrev pub read_of : Decoded → Result Summary Refusal
read_of (packet p) = Ok (record { sender = p.sender; rts = p.rts; blocks = length p.blocks })
read_of (refused e) = Err e
