-- Which packet of a datagram is CCFB packet k, where it stands, and that the call finds just this
-- one. Assumes nothing.
use Prim.Native.Nat.{ℕ, zero, suc, ◌+◌, ◌≤◌}
use mathlib.Core.Bool.{true, false}
use mathlib.Core.Path.{◌≡◌, refl, sym, ap, ◌∙◌}
use mathlib.Core.List.{List, [], ◌∷◌, ◌++◌, flatten}
use native.Mathlib.Omega.{arith}
use native.Mathlib.Nat.{add-zero, zero-add}
use lib.ListN.{length, length-append}
use lib.Seq.{drop-append_seam, take-append_seam}
use Rattle.lists.specs.All.{All}
use Rattle.lists.specs.Kept.{kept}
use Rattle.lists.proofs.Cases.{split_test}
use Rattle.lists.proofs.All.{all_right}
use Rattle.lists.proofs.Flatten.{flatten_append}
use Rattle.lists.proofs.Kept.{kept_yes, kept_no, kept_append, kept_once}
use Rattle.reader.specs.Reading.{decode_packet}
use Rattle.datagram.specs.Walk.{packet_part, packet_end, packets_of}
use Rattle.datagram.specs.Datagram.{HoldsPackets, placed_at, placed}
use Rattle.datagram.specs.Feedback.{found_is_ccfb, octets_are_ccfb, feedback_of, feedback_in, KthFeedback}
use Rattle.datagram.specs.declared.RtcpPacket.{RtcpPacket}
use Rattle.datagram.proofs.Rules.{held_walked, placed_count}
use Rattle.datagram_reader.specs.Reading.{nth, located_feedback, accepted_as, read_feedback}
use Rattle.refusal.specs.declared.Refusal.TheVariants.{NoPacket}
use Rattle.std.specs.Prelude.{Ok, Err}

-- ---- CCFB packet k

-- packet k of the packets, or there are not more than k
pub data Kth (ps : List (List ℕ)) (k : ℕ) : Type 0 where
  there : (p : List ℕ) → KthFeedback ps k p → Kth ps k
  past : length (feedback_in ps) ≤ k → Kth ps k

module _ (p : List ℕ) (ps : List (List ℕ)) where
  first : octets_are_ccfb p ≡ true → Kth (p ∷ ps) zero
  unfolding kept
  first t = there p (record { before = []; after = ps; order = refl; ccfb = t; count = refl })

  -- packet k of the others is packet k + n with p, where p counts n
  behind_first : (n : ℕ) → ((qs : List (List ℕ)) → length (feedback_in (p ∷ qs)) ≡ length (feedback_in qs) + n)
      → (k m : ℕ) → m ≡ k + n → Kth ps k → Kth (p ∷ ps) m
  behind_first n more k m e (there q x) =
      there q (record {
        before = p ∷ x.before;
        after = x.after;
        order = ap (λ (r : List (List ℕ)). p ∷ r) x.order;
        ccfb = x.ccfb;
        count = omega (arith, more x.before, x.count);
      })
  behind_first n more k m e (past l) = past (omega (arith, more ps))

  behind_feedback : octets_are_ccfb p ≡ true → (k : ℕ) → Kth ps k → Kth (p ∷ ps) (suc k)
  behind_feedback t k = behind_first 1 (λ qs. omega (arith, ap length (kept_yes octets_are_ccfb p qs t))) k (suc k) (omega arith)

  behind_other : octets_are_ccfb p ≡ false → (k : ℕ) → Kth ps k → Kth (p ∷ ps) k
  behind_other t k = behind_first 0 (λ qs. omega (arith, ap length (kept_no octets_are_ccfb p qs t))) k k (omega arith)

pub kth : (ps : List (List ℕ)) (k : ℕ) → Kth ps k
unfolding kept
kth [] k = past (omega arith)
kth (p ∷ ps) zero = split_test (octets_are_ccfb p) (first p ps) (λ t. behind_other p ps t zero (kth ps zero))
kth (p ∷ ps) (suc k) = split_test (octets_are_ccfb p) (λ t. behind_feedback p ps t k (kth ps k)) (λ t. behind_other p ps t (suc k) (kth ps (suc k)))

module _ (ps : List (List ℕ)) (k : ℕ) (p : List ℕ) (x : KthFeedback ps k p) where
  -- it is one of the CCFB packets, behind k others
  kth_kept : feedback_in ps ≡ feedback_in x.before ++ (p ∷ feedback_in x.after)
  kth_kept =
      ap feedback_in x.order ∙ kept_append octets_are_ccfb x.before (p ∷ x.after)
      ∙ ap (λ r. feedback_in x.before ++ r) (kept_yes octets_are_ccfb p x.after x.ccfb)

  pub kth_count : length (feedback_in ps) ≡ k + suc (length (feedback_in x.after))
  kth_count =
      ap length kth_kept ∙ length-append (feedback_in x.before) (p ∷ feedback_in x.after)
      ∙ ap (λ (n : ℕ). n + suc (length (feedback_in x.after))) x.count

  -- what holds of all packets holds of it
  pub kth_all : (P : List ℕ → Type 0) → All P ps → P p
  kth_all P h = (all_right P x.before (p ∷ x.after) (rw x.order at h)).0

  -- no other packet is packet k, and it stands at one place alone
  pub kth_once : (q : List ℕ) (y : KthFeedback ps k q) → (p ≡ q) × (x.before ≡ y.before)
  kth_once q y =
      kept_once octets_are_ccfb x.before y.before p q x.after y.after (sym x.order ∙ y.order) x.ccfb y.ccfb
      (x.count ∙ sym y.count)

-- ---- where it stands

placed_append : (at : ℕ) (ps qs : List (List ℕ)) → placed at (ps ++ qs) ≡ placed at ps ++ placed (at + length (flatten ps)) qs
unfolding flatten placed
placed_append at [] qs = ap (λ (i : ℕ). placed i qs) (sym (add-zero at))
placed_append at (p ∷ ps) qs =
    let e : at + length p + length (flatten ps) ≡ at + length (p ++ flatten ps) = omega (arith, length-append p (flatten ps)) in
    ap (λ r. placed_at at p ∷ r) (placed_append (at + length p) ps qs ∙ ap (λ (i : ℕ). placed (at + length p) ps ++ placed i qs) e)

nth_there : (bs : List RtcpPacket) (b : RtcpPacket) (cs : List RtcpPacket) → nth (bs ++ b ∷ cs) (length bs) ≡ Ok b
nth_there [] b cs = refl
nth_there (a ∷ bs) b cs = nth_there bs b cs

nth_past : (bs : List RtcpPacket) (k : ℕ) → length bs ≤ k → nth bs k ≡ Err NoPacket
nth_past [] k l = refl
nth_past (b ∷ bs) zero l = absurd (omega arith)
nth_past (b ∷ bs) (suc k) l = nth_past bs k (omega arith)

-- ---- what the call answers

module _ (s : List ℕ) (ps : List (List ℕ)) (held : HoldsPackets s ps) (k : ℕ) where
  -- no packet k
  pub read_past : length (feedback_in ps) ≤ k → read_feedback s k ≡ Err NoPacket
  read_past l = rw (held_walked s ps held, nth_past (feedback_of (placed 0 ps)) k (omega (arith, placed_count 0 ps)))

  module _ (p : List ℕ) (x : KthFeedback ps k p) where
    -- packet k stands behind the octets of those before it
    abbrev standing : RtcpPacket
    standing = placed_at (length (flatten x.before)) p

    joined : s ≡ flatten x.before ++ (p ++ flatten x.after)
    unfolding flatten
    joined = sym held.joined ∙ ap flatten x.order ∙ flatten_append x.before (p ∷ x.after)

    pub kth_octets : packet_part s standing ≡ p
    kth_octets = rw (joined, drop-append_seam (flatten x.before) (p ++ flatten x.after), take-append_seam p (flatten x.after))

    pub kth_within : packet_end standing ≤ length s
    kth_within =
        let l : length s ≡ length (flatten x.before) + length (p ++ flatten x.after) =
        ap length joined ∙ length-append (flatten x.before) (p ++ flatten x.after) in
        omega (arith, length-append p (flatten x.after))

    kth_located : located_feedback (packets_of s) k ≡ Ok standing
    unfolding placed
    kth_located =
        let at = length (flatten x.before) in
        let before = placed 0 x.before in
        let after = placed (at + length p) x.after in
        let all : placed 0 ps ≡ before ++ (standing ∷ after) =
        ap (placed 0) x.order ∙ placed_append 0 x.before (p ∷ x.after) ∙ ap (λ (i : ℕ). before ++ placed i (p ∷ x.after)) (zero-add at) in
        let fed : feedback_of (placed 0 ps) ≡ feedback_of before ++ (standing ∷ feedback_of after) =
        ap feedback_of all ∙ kept_append found_is_ccfb before (standing ∷ after)
        ∙ ap (λ (r : List RtcpPacket). feedback_of before ++ r) (kept_yes found_is_ccfb standing after x.ccfb) in
        let count : k ≡ length (feedback_of before) = sym (placed_count 0 x.before ∙ x.count) in
        rw (held_walked s ps held, fed, count) (nth_there (feedback_of before) standing (feedback_of after))

    pub read_kth : read_feedback s k ≡ accepted_as standing (decode_packet p)
    read_kth = rw (kth_located, kth_octets)
