-- Rules: "Refusals", "Order of refusals". When the calls about a datagram give each refusal: its own
-- condition holds, and that of none before it. The conditions are in the words of the rules, without
-- the walk that decides them.
use Rattle.std.specs.Prelude.{ℕ, ◌≤◌, List, [], ◌∷◌, length, drop}
use Rattle.refusal.specs.declared.Refusal.{Refusal}
use Rattle.datagram.specs.Datagram.{HoldsPackets, NoDatagram, NoPacketIn}
use Rattle.datagram.specs.Feedback.{feedback_in, KthFeedback}
use Rattle.packet_laws.specs.Refused.{ReadingGiven}
use Rattle.refusal.specs.declared.Refusal.TheVariants.{BadDatagram, NoPacket}

-- how many CCFB packets: 31 alone
pub data CountGiven (s : List ℕ) : Refusal → Type 0 where
  bad_datagram : NoDatagram s → CountGiven s BadDatagram

-- CCFB packet k: 31, 32, then the reader's refusal of that packet
pub data FeedbackGiven (s : List ℕ) (k : ℕ) : Refusal → Type 0 where
  bad_datagram : NoDatagram s → FeedbackGiven s k BadDatagram
  no_packet : (ps : List (List ℕ)) → HoldsPackets s ps → length (feedback_in ps) ≤ k → FeedbackGiven s k NoPacket
  reader : {e : Refusal} (ps : List (List ℕ)) (p : List ℕ) → HoldsPackets s ps → KthFeedback ps k p → ReadingGiven p e → FeedbackGiven s k e

-- the packet at an offset: 31 where no packet stands there, 32 at the end and beyond
pub data PacketGiven (s : List ℕ) (at : ℕ) : Refusal → Type 0 where
  bad_datagram : NoPacketIn (drop at s) → PacketGiven s at BadDatagram
  at_the_end : length s ≤ at → PacketGiven s at NoPacket

-- ---- the numbers that can come

-- those of CCFB packet k: 22 to 24 are not among them, since the walk has seen version, type, FMT
-- and length
abbrev pub feedback_numbers : List ℕ
feedback_numbers = 31 ∷ 32 ∷ 21 ∷ 25 ∷ 26 ∷ 27 ∷ 28 ∷ []
