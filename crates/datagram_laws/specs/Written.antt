-- Rules: "Datagram", rule "Written packets". What is proved of a datagram that the writer's packets
-- end: other packets in front, which may be none, and then what was written.
use Rattle.std.specs.Prelude.{ℕ, ◌+◌, ◌≤◌, ◌<◌, ◌≡◌, false, length, take, get_or, Ok, Err}
use mathlib.Core.List.{List, [], ◌∷◌, ◌++◌, flatten}
use Rattle.refusal.specs.Numbers.{number_of}
use Rattle.writer_laws.specs.Read.{packets_in}
use Rattle.datagram.specs.Walk.{packets_of}
use Rattle.datagram.specs.Datagram.{IsPacket, NoPadding, HoldsPackets, placed_at}
use Rattle.datagram.specs.Feedback.{octets_are_ccfb, feedback_in}
use Rattle.datagram_count.specs.Count.{count_of}
use Rattle.datagram_reader.specs.Reading.{read_feedback}
use Rattle.refusal.specs.declared.Refusal.TheVariants.{NoPacket}
use Rattle.ccfb_calls.specs.Called.{called}
use Rattle.ccfb_datagram.specs.Datagrams.{count_called, feedback_called}
use Rattle.call_laws.specs.Part.{octets_at}

-- an RTCP packet that is not CCFB, without padding flag
pub record Other (p : List ℕ) : Type 0 where
  pub is : IsPacket p
  pub unpadded : NoPadding p
  pub other : octets_are_ccfb p ≡ false

-- the packets of `front`, and then what was written
abbrev pub behind_front : List (List ℕ) → List ℕ → List ℕ
behind_front front written = flatten front ++ written

-- `front` are packets, and `written` is what the writer wrote: n packets
pub record EndsWritten (front : List (List ℕ)) (written : List ℕ) (n : ℕ) : Type 0 where
  -- together they are a datagram: the packets in front and the written ones
  pub held : HoldsPackets (behind_front front written) (front ++ packets_in written)
  -- its CCFB packets are the written packets in their order
  pub feedback : feedback_in (front ++ packets_in written) ≡ packets_in written
  -- they are as many as the writer answered
  pub count : count_of (packets_of (behind_front front written)) ≡ Ok n
  -- each is found, at its place
  pub found : (before : List (List ℕ)) (p : List ℕ) (after : List (List ℕ)) → packets_in written ≡ before ++ p ∷ after
      → read_feedback (behind_front front written) (length before) ≡ Ok (placed_at (length (flatten front) + length (flatten before)) p)
  -- and no other
  pub past : (k : ℕ) → n ≤ k → read_feedback (behind_front front written) k ≡ Err NoPacket

-- ---- the same of the calls, by their contracts

-- written packet k, from 0
abbrev pub written_packet : List ℕ → ℕ → List ℕ
written_packet written k = get_or (packets_in written) k []

-- where it starts: behind the packets in front and the written ones before it
abbrev pub written_at : List (List ℕ) → List ℕ → ℕ → ℕ
written_at front written k = length (flatten front) + length (flatten (take k (packets_in written)))

pub record CallsFind (front : List (List ℕ)) (written : List ℕ) (n : ℕ) : Type 0 where
  -- `ccfb_feedback_count` answers 0 and leaves n, whatever stood behind its pointer
  pub count : (before : List ℕ) → count_called (count_of (packets_of (behind_front front written))) before ≡ called 0 (n ∷ [])
  -- `ccfb_feedback` for each k below n answers 0, and leaves where written packet k starts, and
  -- how many octets it has
  pub each : (k : ℕ) → k < n
      → feedback_called (read_feedback (behind_front front written) k)
      ≡ called 0 (written_at front written k ∷ length (written_packet written k) ∷ [])
  -- the octets there are that packet
  pub octets : (k : ℕ) → k < n
      → octets_at (behind_front front written) (written_at front written k) (length (written_packet written k)) ≡ written_packet written k
  -- for other k it answers 32, and leaves 0 and 0
  pub past : (k : ℕ) → n ≤ k → feedback_called (read_feedback (behind_front front written) k) ≡ called (number_of NoPacket) (0 ∷ 0 ∷ [])
