-- The answer about CCFB packet k, from what the code's steps have found. Assumes nothing.
use Prim.Native.Nat.{ℕ, suc, ◌-◌}
use mathlib.Core.Bool.{Bool, true, false}
use mathlib.Core.Path.{◌≡◌, refl}
use mathlib.Core.List.{List}
use native.Mathlib.Omega.{arith}
use Rattle.lists.specs.Kept.{kept}
use Rattle.refusal.specs.declared.Refusal.{Refusal}
use Rattle.reader.specs.Reading.{Decoded, packet, refused, read_of}
use Rattle.std.specs.Prelude.{Some, None, Ok, Err}
use Rattle.std.specs.Result.{result_and}
use Rattle.datagram.specs.Walk.{packet_at_of, Parsed, packets, broken, in_front, packet_end, packets_from}
use Rattle.datagram.specs.Feedback.{found_is_ccfb}
use Rattle.datagram.specs.declared.RtcpPacket.{RtcpPacket}
use Rattle.datagram.proofs.Steps.{found_more, found_within, bad_datagram_lem}
use Rattle.datagram.proofs.Walks.{walk_packet, walk_end, walk_broken}
use Rattle.datagram_count.specs.Count.{count_of}
use Rattle.datagram_count.proofs.Counts.{feedback_first, other_first}
use Rattle.datagram_reader.specs.Reading.{located_feedback, accepted_as}
use Rattle.datagram_reader.specs.Steps.{found_before_of}
use Rattle.refusal.specs.declared.Refusal.TheVariants.{NoPacket}

-- a packet that was found is given if the rest of the datagram is sound
pub found_sound : (p : RtcpPacket) (w : Parsed) → found_before_of p w ≡ result_and (count_of w) (Ok p)
found_sound p (packets ps) = refl
found_sound p broken = refl

-- and if the reader accepts it
pub accepted_sound : (p : RtcpPacket) (d : Decoded) → accepted_as p d ≡ result_and (read_of d) (Ok p)
accepted_sound p (packet q) = refl
accepted_sound p (refused e) = refl

-- ---- CCFB packet k of a walk that starts with a packet p; b says whether p is one

module _ (p : RtcpPacket) (b : Bool) (is : b ≡ found_is_ccfb p) where
  located_first : b ≡ true → (w : Parsed) → found_before_of p w ≡ located_feedback (in_front p w) 0
  located_first e (packets ps) = rw (feedback_first p b is ps e)
  located_first e broken = refl

  located_later : b ≡ true → (w : Parsed) (k : ℕ) → located_feedback w k ≡ located_feedback (in_front p w) (suc k)
  located_later e (packets ps) k = rw (feedback_first p b is ps e)
  located_later e broken k = refl

  located_other : b ≡ false → (w : Parsed) (k : ℕ) → located_feedback w k ≡ located_feedback (in_front p w) k
  located_other e (packets ps) k = rw (other_first p b is ps e)
  located_other e broken k = refl

-- ---- a turn of the loop that searches: `left` before it, m behind it

module _ (s : List ℕ) (at left : ℕ) where
  module _ (p : RtcpPacket) (here : packet_at_of s at ≡ Ok (Some p)) where
    pub search_hit : found_is_ccfb p ≡ true → left ≡ 0 → found_before_of p (packets_from s (packet_end p)) ≡ located_feedback (packets_from s at) left
    search_hit e z = rw (z, walk_packet s at _ refl p here) (located_first p _ refl e (packets_from s (packet_end p)))

    module _ (m : ℕ) where
      pub search_one : found_is_ccfb p ≡ true → (left ≡ 0 → ⊥) → m ≡ left - 1
          → located_feedback (packets_from s (packet_end p)) m ≡ located_feedback (packets_from s at) left
      search_one e z h =
          let next : left ≡ suc m = omega arith in
          rw (next, walk_packet s at _ refl p here) (located_later p _ refl e (packets_from s (packet_end p)) m)

      pub search_other : found_is_ccfb p ≡ false → m ≡ left
          → located_feedback (packets_from s (packet_end p)) m ≡ located_feedback (packets_from s at) left
      search_other e h = rw (h, walk_packet s at _ refl p here) (located_other p _ refl e (packets_from s (packet_end p)) left)

  pub search_end : packet_at_of s at ≡ Ok None → located_feedback (packets_from s at) left ≡ Err NoPacket
  unfolding kept
  search_end e = rw (walk_end s at _ refl e)

  pub search_broken : (x : Refusal) → packet_at_of s at ≡ Err x → located_feedback (packets_from s at) left ≡ Err x
  search_broken x e = rw (walk_broken s at _ refl x e, bad_datagram_lem s at x e)

-- every case, and where a packet ends
pub ruleset searches = (search_hit, search_one, search_other, search_end, search_broken, found_more, found_within)
