-- Rules: "Datagram". What is proved where CCFB packet k of a datagram s is found: which packet it
-- is, where it stands, and what the reader answers of it.
use Rattle.std.specs.Prelude.{ℕ, ◌+◌, ◌≤◌, ◌≡◌, length, Err}
use mathlib.Core.List.{List, [], flatten}
use Rattle.refusal.specs.Numbers.{number_of}
use Rattle.refusal.specs.declared.Refusal.{Refusal}
use Rattle.packet.specs.Packet.{Packet}
use Rattle.reader.specs.Reading.{packet, decode_packet, read_of}
use Rattle.block_reader.specs.Blocks.{read_block}
use Rattle.metric_reader.specs.Metrics.{metrics_part, read_metric}
use Rattle.call_laws.specs.Part.{octets_at}
use Rattle.datagram.specs.Walk.{packet_end}
use Rattle.datagram.specs.Datagram.{HoldsPackets, placed_at}
use Rattle.datagram.specs.Feedback.{KthFeedback}
use Rattle.datagram.specs.declared.RtcpPacket.{RtcpPacket}
use Rattle.datagram_reader.specs.Reading.{read_feedback, feedback_part, feedback_refusal}

-- the packet that was found, b, is CCFB packet k of the packets that s holds; it starts behind
-- those before it, and ends within s; the octets at its offset, as many as its size, are that
-- packet; and the reader accepts them
pub record FoundKth (s : List ℕ) (k : ℕ) (b : RtcpPacket) : Type 0 where
  pub packets : List (List ℕ)
  pub octets : List ℕ
  pub held : HoldsPackets s packets
  pub kth : KthFeedback packets k octets
  pub place : b ≡ placed_at (length (flatten kth.before)) octets
  pub within : packet_end b ≤ length s
  pub stands : octets_at s b.at b.size ≡ octets
  pub reading : Packet
  pub accepted : decode_packet octets ≡ packet reading

-- the reader answers of a part what it answers of these octets alone
pub record ReadsAs (part octets : List ℕ) : Type 0 where
  pub whole : read_of (decode_packet part) ≡ read_of (decode_packet octets)
  pub block : (j : ℕ) → read_block part j ≡ read_block octets j
  pub metrics : (j : ℕ) → metrics_part (read_block part j) part ≡ metrics_part (read_block octets j) octets
  pub metric : (j i : ℕ) → read_metric part j i ≡ read_metric octets j i

-- what `ccfb_feedback` answers, and the offset and the length that it gives, belong to CCFB packet
-- k: the octets there are the part that `feedback_part` returns, they lie within s, and the answer
-- is the number of its refusal, or 0
pub record PacketPlaced (s : List ℕ) (k given at size : ℕ) : Type 0 where
  pub part : octets_at s at size ≡ feedback_part (read_feedback s k) s
  pub octets : length (feedback_part (read_feedback s k) s) ≡ size
  pub within : at + size ≤ length s
  pub refusal : given ≡ feedback_refusal (read_feedback s k)
  pub refused : (e : Refusal) → read_feedback s k ≡ Err e
      → (given ≡ number_of e) × (at ≡ 0) × (size ≡ 0) × (feedback_part (read_feedback s k) s ≡ [])
