-- Counting CCFB packets along the walk, a packet at a time. Assumes nothing.
use Prim.Native.Nat.{ℕ, ◌+◌}
use mathlib.Core.Bool.{Bool, true, false}
use mathlib.Core.Path.{◌≡◌, refl, sym, ap, ◌∙◌}
use mathlib.Core.List.{List, ◌∷◌}
use native.Mathlib.Omega.{arith}
use native.Mathlib.Nat.{add-zero, zero-add}
use lib.ListN.{length}
use Rattle.lists.specs.Kept.{kept}
use Rattle.lists.proofs.Kept.{kept_yes, kept_no}
use Rattle.datagram.specs.Walk.{packet_at_of, Parsed, packets, broken, in_front, packet_end, packets_from}
use Rattle.datagram.specs.Feedback.{found_is_ccfb, feedback_of}
use Rattle.datagram.specs.declared.RtcpPacket.{RtcpPacket}
use Rattle.std.specs.Prelude.{Option, Result, Some, None, Ok, Err}
use Rattle.refusal.specs.declared.Refusal.{Refusal}
use Rattle.datagram.proofs.Steps.{found_more, found_within, bad_datagram_lem}
use Rattle.datagram.proofs.Walks.{walk_packet, walk_end, walk_broken}
use Rattle.datagram_count.specs.Count.{count_of}
use Rattle.datagram_count.specs.Steps.{counted}
use Rattle.refusal.specs.declared.Refusal.TheVariants.{BadDatagram}

-- the CCFB packets of a walk that starts with a packet p; b says whether p is one
module _ (p : RtcpPacket) (b : Bool) (is : b ≡ found_is_ccfb p) (ps : List RtcpPacket) where
  pub feedback_first : b ≡ true → feedback_of (p ∷ ps) ≡ p ∷ feedback_of ps
  feedback_first e = kept_yes found_is_ccfb p ps (sym is ∙ e)

  pub other_first : b ≡ false → feedback_of (p ∷ ps) ≡ feedback_of ps
  other_first e = kept_no found_is_ccfb p ps (sym is ∙ e)

-- none counted before
pub counted_none : (w : Parsed) → counted 0 w ≡ count_of w
counted_none (packets ps) = ap Ok (zero-add (length (feedback_of ps)))
counted_none broken = refl

module _ (n : ℕ) (p : RtcpPacket) (b : Bool) (is : b ≡ found_is_ccfb p) where
  counted_one : b ≡ true → (w : Parsed) → counted (n + 1) w ≡ counted n (in_front p w)
  counted_one e (packets ps) = rw (feedback_first p b is ps e) (ap Ok (omega arith))
  counted_one e broken = refl

  counted_other : b ≡ false → (w : Parsed) → counted n w ≡ counted n (in_front p w)
  counted_other e (packets ps) = rw (other_first p b is ps e)
  counted_other e broken = refl

-- a turn of the loop that counts: n before it
module _ (s : List ℕ) (at n : ℕ) where
  module _ (p : RtcpPacket) (here : packet_at_of s at ≡ Ok (Some p)) where
    pub count_one : found_is_ccfb p ≡ true → counted (n + 1) (packets_from s (packet_end p)) ≡ counted n (packets_from s at)
    count_one e = rw (walk_packet s at _ refl p here) (counted_one n p _ refl e (packets_from s (packet_end p)))

    pub count_other : found_is_ccfb p ≡ false → counted n (packets_from s (packet_end p)) ≡ counted n (packets_from s at)
    count_other e = rw (walk_packet s at _ refl p here) (counted_other n p _ refl e (packets_from s (packet_end p)))

  pub count_end : packet_at_of s at ≡ Ok None → counted n (packets_from s at) ≡ Ok n
  unfolding kept
  count_end e = rw (walk_end s at _ refl e, add-zero)

  pub count_broken : (x : Refusal) → packet_at_of s at ≡ Err x → counted n (packets_from s at) ≡ Err x
  count_broken x e = rw (walk_broken s at _ refl x e, bad_datagram_lem s at x e)

-- every case, and where a packet ends
pub ruleset counts = (counted_none, count_one, count_other, count_end, count_broken, found_more, found_within)
