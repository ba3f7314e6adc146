-- A packet that is found lies within the datagram. Assumes nothing.
use Prim.Native.Nat.{ℕ, zero, suc, ◌≤◌}
use mathlib.Core.Bool.{Bool, true, false, cond}
use mathlib.Core.Path.{◌≡◌, refl, ap, subst, ◌∙◌}
use mathlib.Core.List.{List, ◌∷◌}
use lib.ListN.{length}
use Rattle.lists.specs.Kept.{kept}
use Rattle.lists.proofs.Cases.{never}
use Rattle.reader.specs.Reading.{Decoded, packet, refused, decode_packet}
use Rattle.datagram.specs.Walk.{packet_at_of, packet_part, Parsed, packets, broken, in_front, packet_end, packets_of}
use Rattle.datagram.specs.Feedback.{found_is_ccfb, feedback_of}
use Rattle.datagram.specs.declared.RtcpPacket.{RtcpPacket}
use Rattle.datagram.proofs.Steps.{found_within}
use Rattle.datagram.proofs.Walks.{walk_ind}
use Rattle.std.specs.Prelude.{Result, Some, Ok, Err}
use Rattle.refusal.specs.declared.Refusal.{Refusal}
use Rattle.datagram_reader.specs.Reading.{nth, located_feedback, accepted_as, checked, read_feedback}

-- a packet found in a walk that starts with q is q, or is found behind q
module _ {P : Type 0} (p q : RtcpPacket) (this : q ≡ p → P) where
  nth_cases : (b : Bool) (ps : List RtcpPacket) (k : ℕ) → nth (cond b (q ∷ ps) ps) k ≡ Ok p → ((j : ℕ) → nth ps j ≡ Ok p → P) → P
  nth_cases true ps zero e later = this (cc)
  nth_cases true ps (suc k) e later = later k e
  nth_cases false ps k e later = later k e

  located_cases : (w : Parsed) (k : ℕ) → located_feedback (in_front q w) k ≡ Ok p → ((j : ℕ) → located_feedback w j ≡ Ok p → P) → P
  unfolding kept
  located_cases (packets ps) k e later = nth_cases (found_is_ccfb q) (feedback_of ps) k e later
  located_cases broken k e later = never (cc)

module _ (s : List ℕ) (p : RtcpPacket) where
  -- a packet that is found in a walk ends within the octets
  Inside : ℕ → Parsed → Type 0
  Inside at w = (k : ℕ) → located_feedback w k ≡ Ok p → packet_end p ≤ length s

  inside_more : (at : ℕ) (q : RtcpPacket) (w : Parsed) → packet_at_of s at ≡ Ok (Some q) → Inside (packet_end q) w → Inside at (in_front q w)
  unfolding Inside
  inside_more at q w f rest k e =
      located_cases p q (λ z. subst (λ (y : RtcpPacket). packet_end y ≤ length s) z (found_within s at q f)) w k e rest

  pub located_within : (k : ℕ) → located_feedback (packets_of s) k ≡ Ok p → packet_end p ≤ length s
  unfolding Inside kept
  located_within = walk_ind s Inside (λ at l k e. never (cc)) (λ at n k e. never (cc)) inside_more 0

  -- and so does one that the reader accepts
  pub feedback_within : (k : ℕ) → read_feedback s k ≡ Ok p → packet_end p ≤ length s
  feedback_within k e = by_answer (located_feedback (packets_of s) k) refl e
    where
      by_reading : (q : RtcpPacket) (d : Decoded) → accepted_as q d ≡ Ok p → q ≡ p
      by_reading q (packet x) e = cc
      by_reading q (refused x) e = never (cc)

      by_answer : (a : Result RtcpPacket Refusal) → located_feedback (packets_of s) k ≡ a → checked s a ≡ Ok p → packet_end p ≤ length s
      by_answer (Ok q) f e = located_within k (f ∙ ap Ok (by_reading q (decode_packet (packet_part s q)) e))
      by_answer (Err x) f e = never (cc)
