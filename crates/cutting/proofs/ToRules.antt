-- The plan meets the packet rules. Assumes nothing.
use Rattle.std.proofs.Common.{◌≡◌, ℕ, zero, suc, ◌+◌, ◌-◌, ◌%◌, ◌<◌, ◌≤◌, ◌≢◌, ◌↔◌, List, [], ◌∷◌, ◌++◌, length, sym, refl, ap, ◌∙◌, subst, ap₂, append-nil, suc-le-suc, zero-le, arith}
use native.Mathlib.Nat.{sub-zero, suc-sub-suc}
use Rattle.lists.specs.All.{All}
use Rattle.lists.proofs.All.{all_map}
use Rattle.packet.specs.Sizes.{block_octets, blocks_octets, packet_octets}
use Rattle.cutting.specs.declared.Request.{Request}
use Rattle.cutting.specs.Cutting.{CutBlock, CutPacket, all_blocks, blocks_of, rounded_down, following, numbers_from, whole_blocks}
use Rattle.cutting.specs.Cutting.{RangeRules, InOrder, stream_of, NoStreamTwice, PacketRules, Cuts, DifferentStreams, counts}
use Rattle.cutting.specs.Limits.{least_limit}
use Rattle.cutting.specs.Plan.{first_numbers, later_numbers, number_after, filled_from, packets_from, most_packets, plan}
use Rattle.cutting.proofs.Split.{Split, done, whole, part}
use Rattle.cutting.proofs.Plan.{filled_none, filled_cases, filled_fits, filled_less}
use Rattle.cutting.proofs.FromRules.{Counted, counted_whole, length_whole, Within, of_same, of_other, of_none}

-- ---- a derivation gives the rules on the blocks of all packets

record Flat (n : ℕ) (w bs : List CutBlock) : Type 0 where
  within : All (Within n (length w)) bs
  ordered : InOrder bs
  answers : All (λ a. RangeRules a (blocks_of a.request bs)) w

run_join : (s j k : ℕ) → j ≤ k → numbers_from s j ++ numbers_from (number_after s j) (k - j) ≡ numbers_from s k
run_join s zero k h = rw sub-zero
run_join s (suc j) zero h = absurd (omega arith)
run_join s (suc j) (suc k) h = rw suc-sub-suc (ap (λ (l : List ℕ). s ∷ l) (run_join (following s) j k (omega arith)))

-- a block more of an earlier request is no answer to a later one
answers_cons : (n : ℕ) (w : List CutBlock) (b : CutBlock) (bs : List CutBlock) → Counted n w → b.request < n
    → All (λ a. RangeRules a (blocks_of a.request bs)) w → All (λ a. RangeRules a (blocks_of a.request (b ∷ bs))) w
answers_cons n [] b bs c l h = tt
answers_cons n (a ∷ w) b bs c l h =
    (rw (of_other a.request b bs (omega (arith, c.0))) h.0, answers_cons (suc n) w b bs c.1 (omega arith) h.1)

answer_whole : (a : CutBlock) → RangeRules a (a ∷ [])
answer_whole a = record { range = append-nil _; empty = λ e. refl; filled = λ h. (h, tt) }

answer_part : (a b : CutBlock) (bs : List CutBlock) → b ≡ first_numbers a b.count → 0 < b.count → b.count < a.count
    → RangeRules (later_numbers a b.count) bs → RangeRules a (b ∷ bs)
answer_part a b bs e p q h = record {
  range = rw (h.range, ap (λ (x : CutBlock). x.begin) e) (run_join a.begin b.count a.count (omega arith));
  empty = λ z. absurd (omega arith);
  filled = λ z. (p, h.filled (omega arith));
}

flat : (n : ℕ) {w bs : List CutBlock} → Counted n w → Split w bs → Flat n w bs
flat n c done = record { within = tt; ordered = tt; answers = tt }
flat n c (whole {a = a} {b = b} {w = w} {bs = bs} e s) =
    let f : Flat (suc n) w bs = flat (suc n) c.1 s in
    let q : b.request ≡ n = ap (λ (x : CutBlock). x.request) e ∙ c.0 in
    record {
      within = ((omega arith, omega arith), all_map bs (λ d p. (omega (arith, p.0), omega (arith, p.1))) f.within);
      ordered = (all_map bs (λ d p. omega (arith, p.0)) f.within, f.ordered);
      answers = (
        subst (RangeRules a)
            (sym (of_same a.request b bs (q ∙ sym c.0)
            ∙ ap₂ (λ (x : CutBlock) (l : List CutBlock). x ∷ l) e (of_none a.request bs (all_map bs (λ d p. omega (arith, p.0, c.0)) f.within))))
            (answer_whole a),
        answers_cons (suc n) w b bs c.1 (omega arith) f.answers,
      );
    }
flat n c (part {a = a} {b = b} {w = w} {bs = bs} e p l s) =
    let f : Flat n (later_numbers a b.count ∷ w) bs = flat n c s in
    let q : b.request ≡ n = ap (λ (x : CutBlock). x.request) e ∙ c.0 in
    record {
      within = ((omega arith, omega arith), f.within);
      ordered = (all_map bs (λ d p. omega (arith, p.0)) f.within, f.ordered);
      answers = (
        subst (RangeRules a) (sym (of_same a.request b bs (q ∙ sym c.0))) (answer_part a b (blocks_of a.request bs) e p l f.answers.0),
        answers_cons (suc n) w b bs c.1 (omega arith) f.answers.1,
      );
    }

-- ---- the plan's packets

-- The packet is the first blocks of any way to report the rest.
filled_split : (room : ℕ) (w bs : List CutBlock) → Split (filled_from room w).rest bs → Split w ((filled_from room w).packet ++ bs)
filled_split room [] bs = rw (filled_none room) (λ s. s)
filled_split room (b ∷ w) bs =
    filled_cases (λ f. Split f.rest bs → Split (b ∷ w) (f.packet ++ bs)) room b w
    (λ h s. whole refl (filled_split (room - block_octets b.count) w bs s))
    (λ h k s. part refl k (omega arith) s)
    (λ h k s. s)

filled_some : (room : ℕ) (b : CutBlock) (w : List CutBlock) → 12 ≤ room → 0 < length (filled_from room (b ∷ w)).packet
filled_some room b w l =
    filled_cases (λ f. 0 < length f.packet) room b w (λ h. suc-le-suc zero-le) (λ h k. suc-le-suc zero-le) (λ h k. absurd (omega arith))

filled_within : (room n : ℕ) (w : List CutBlock) → Counted n w → All (Within n (length w)) (filled_from room w).packet
filled_within room n [] c = rw (filled_none room) tt
filled_within room n (b ∷ w) c =
    let more : ℕ = room - block_octets b.count in
    filled_cases (λ f. All (Within n (suc (length w))) f.packet) room b w
    (λ h. (
      (omega (arith, c.0), omega (arith, c.0)),
      all_map (filled_from more w).packet (λ d p. (omega (arith, p.0), omega (arith, p.1))) (filled_within more (suc n) w c.1),
    ))
    (λ h k. ((omega (arith, c.0), omega (arith, c.0)), tt))
    (λ h k. tt)

-- Sizes are multiples of 4: a packet is not over the limit exactly if it is not over the limit rounded down.
fours : (p : CutPacket) → blocks_octets (counts p) % 4 ≡ 0
fours [] = refl
fours (b ∷ p) = omega (arith, fours p)

pub rounded : {limit : ℕ} (p : CutPacket) → (packet_octets (counts p) ≤ limit) ↔ (packet_octets (counts p) ≤ rounded_down limit)
rounded p = (λ h. omega (arith, fours p), λ h. omega arith)

-- different requests are on different streams
pub elsewhere : (r : Request) (rs : List Request) (i : ℕ) → All (λ q. r.ssrc ≢ q.ssrc) rs → i < length rs → r.ssrc ≢ stream_of rs i
elsewhere r [] i h l = absurd (omega arith)
elsewhere r (q ∷ rs) zero h l = h.0
elsewhere r (q ∷ rs) (suc i) h l = elsewhere r rs i h.1 (omega arith)

pub apart : (rs : List Request) (i j : ℕ) → DifferentStreams rs → i < j → j < length rs → stream_of rs i ≢ stream_of rs j
apart [] i j d h l = absurd (omega arith)
apart (r ∷ rs) i zero d h l = absurd (omega arith)
apart (r ∷ rs) zero (suc j) d h l = elsewhere r rs j d.0 (omega arith)
apart (r ∷ rs) (suc i) (suc j) d h l = apart rs i j d.1 (omega arith) (omega arith)

filled_once : (rs : List Request) (room n : ℕ) (w : List CutBlock) → DifferentStreams rs
    → n + length w ≤ length rs → Counted n w → NoStreamTwice rs (filled_from room w).packet
filled_once rs room n [] d l c = rw (filled_none room) tt
filled_once rs room n (b ∷ w) d l c =
    let more : ℕ = room - block_octets b.count in
    filled_cases (λ f. NoStreamTwice rs f.packet) room b w
    (λ h. (
      all_map (filled_from more w).packet (λ x p. apart rs b.request x.request d (omega (arith, c.0, p.0)) (omega (arith, p.1)))
          (filled_within more (suc n) w c.1),
      filled_once rs more (suc n) w d (omega arith) c.1,
    ))
    (λ h k. (tt, tt))
    (λ h k. tt)

-- what is left is counted on
pub filled_counted : (room n : ℕ) (w : List CutBlock) → Counted n w
    → (m : ℕ) × Counted m (filled_from room w).rest × (m + length (filled_from room w).rest ≡ n + length w) × (n ≤ m)
filled_counted room n [] c = rw (filled_none room) (n, tt, refl, omega arith)
filled_counted room n (b ∷ w) c =
    filled_cases (λ f. (m : ℕ) × Counted m f.rest × (m + length f.rest ≡ n + suc (length w)) × (n ≤ m)) room b w
    (λ h. let r = filled_counted (room - block_octets b.count) (suc n) w c.1 in (r.0, r.1, omega (arith, r.2), omega (arith, r.3)))
    (λ h k. (n, (c.0, c.1), refl, omega arith))
    (λ h k. (n, c, refl, omega arith))

packets_split : (fuel limit : ℕ) (w : List CutBlock) → least_limit ≤ limit → most_packets w ≤ fuel → Split w (all_blocks (packets_from fuel limit w))
unfolding packets_from
packets_split zero limit [] l h = done
packets_split zero limit (b ∷ w) l h = absurd (omega arith)
packets_split (suc fuel) limit [] l h = done
packets_split (suc fuel) limit (b ∷ w) l h =
    filled_split (limit - 12) (b ∷ w) _
    (packets_split fuel limit (filled_from (limit - 12) (b ∷ w)).rest l (omega (arith, filled_less (limit - 12) b w (omega arith))))

packets_sound : (rs : List Request) (fuel limit n : ℕ) (w : List CutBlock) → DifferentStreams rs → least_limit ≤ limit
    → n + length w ≤ length rs → Counted n w → All (PacketRules limit rs) (packets_from fuel limit w)
unfolding packets_from
packets_sound rs zero limit n w d l h c = tt
packets_sound rs (suc fuel) limit n [] d l h c = tt
packets_sound rs (suc fuel) limit n (b ∷ w) d l h c =
    let r = filled_counted (limit - 12) n (b ∷ w) c in (
      record {
        some = filled_some (limit - 12) b w (omega arith);
        once = filled_once rs (limit - 12) n (b ∷ w) d h c;
        fits = (rounded (filled_from (limit - 12) (b ∷ w)).packet).0 (omega (arith, filled_fits (limit - 12) (b ∷ w)));
      },
      packets_sound rs fuel limit r.0 (filled_from (limit - 12) (b ∷ w)).rest d l (omega (arith, r.2)) r.1,
    )

plan_flat : (limit : ℕ) (rs : List Request) → least_limit ≤ limit → Flat 0 (whole_blocks 0 rs) (all_blocks (plan limit rs))
plan_flat limit rs l = flat 0 (counted_whole 0 rs) (packets_split (most_packets (whole_blocks 0 rs)) limit (whole_blocks 0 rs) l (omega arith))

pub plan_known : (limit : ℕ) (rs : List Request) → least_limit ≤ limit → All (λ b. b.request < length rs) (all_blocks (plan limit rs))
plan_known limit rs l = all_map (all_blocks (plan limit rs)) (λ b p. omega (arith, p.1, length_whole 0 rs)) (plan_flat limit rs l).within

pub plan_rules : (limit : ℕ) (rs : List Request) → DifferentStreams rs → least_limit ≤ limit → Cuts limit rs (plan limit rs)
plan_rules limit rs d l = record {
  known = plan_known limit rs l;
  ordered = (plan_flat limit rs l).ordered;
  ranges = (plan_flat limit rs l).answers;
  packets = packets_sound rs (most_packets (whole_blocks 0 rs)) limit 0 (whole_blocks 0 rs) d l (omega (arith, length_whole 0 rs)) (counted_whole 0 rs);
}
