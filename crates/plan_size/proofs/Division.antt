-- What a range adds to the plan. Assumes nothing.
use mathlib.Core.Path.{◌≡◌, refl, sym, ap, ◌∙◌}
use mathlib.Core.List.{List, [], ◌∷◌}
use Prim.Native.Nat.{ℕ, zero, suc, ◌+◌, ◌-◌, ◌*◌, ◌/◌, ◌≤◌, ◌<◌}
use native.Mathlib.Omega.{arith}
use native.Mathlib.Nat.{suc-mul, mul-le-mul, mul-le-mul_left, div-add-mod', mod-lt}
use lib.ListN.{length, drop, get_or}
use Rattle.packet.specs.Sizes.{block_octets}
use Rattle.plan_size.specs.declared.Added.{Added}
use Rattle.cutting.specs.declared.Request.{Request}
use Rattle.cutting.specs.Cutting.{CutBlock, whole_blocks}
use Rattle.cutting.specs.Limits.{least_limit, most_limit}
use Rattle.cutting.specs.Plan.{fitting, next_block, first_numbers, later_numbers, closed, onto, filled_from, plan_from, plan, total_octets}
use Rattle.plan_size.specs.Measure.{Measures}
use Rattle.plan_size.specs.Steps.{FullPackets, packets_behind, octets_behind, most_added, Adds}
use Rattle.cutting.proofs.Plan.{filled_none, filled_by_lem, filled_cases, next_whole, next_part, whole_fits, part_fits, plan_none, plan_step}
use Rattle.cutting.proofs.Requests.{no_request, block_at, blocks_cons, blocks_none}
use Rattle.cutting.specs.declared.NextBlock.TheVariants.{Whole, Part, Closed}

-- ---- division

pub full_none : (most count : ℕ) → count ≤ most → FullPackets most count 0
full_none most count h = record { within = omega arith; last = omega arith; more = λ l. absurd (omega arith) }

pub full_some : (most count : ℕ) → 1 < most → most < count → FullPackets most count ((count - 1) / most)
full_some most count h l =
    let e = div-add-mod' (count - 1) most in
    let m = mod-lt (count - 1) {m = most} (omega arith) in
    record { within = omega arith; last = omega arith; more = λ _. omega arith }

-- ---- a packet with no room is closed

pub closed_0 : (w : List CutBlock) → filled_from 0 w ≡ closed w
closed_0 [] = filled_none 0
closed_0 (b ∷ w) = filled_cases (λ f. f ≡ closed (b ∷ w)) 0 b w (λ h. absurd (omega arith)) (λ h k. absurd (omega arith)) (λ h k. refl)

module _ (limit : ℕ) (enough : least_limit ≤ limit) where
  abbrev most : ℕ
  most = fitting (limit - 12)

  -- what the plan of b and w starts with, where b fills q packets and one more has `last` numbers
  record Starts (q last : ℕ) (b : CutBlock) (w : List CutBlock) : Type 0 where
    packets : length (plan_from limit (b ∷ w)) ≡ q + 1 + packets_behind limit (limit - 12 - block_octets last) w
    octets : total_octets (plan_from limit (b ∷ w)) ≡ q * (12 + block_octets most) + (12 + block_octets last) + octets_behind limit (limit - 12 - block_octets last) w

  starts : (q last : ℕ) (b : CutBlock) (w : List CutBlock) → b.count ≡ q * most + last → last ≤ most → (0 < q → 0 < last) → Starts q last b w
  starts zero last b w e l m =
      let c : b.count ≡ last = omega arith in
      let room : ℕ = limit - 12 - block_octets last in
      let f : filled_from (limit - 12) (b ∷ w) ≡ onto b (filled_from room w) =
      rw (← c) (filled_by_lem (limit - 12) b w Whole (next_whole (limit - 12) b.count (omega arith))) in
      let p : plan_from limit (b ∷ w) ≡ (b ∷ (filled_from room w).packet) ∷ plan_from limit (filled_from room w).rest = rw f at (plan_step limit b w enough) in
      record { packets = omega (arith, ap length p); octets = omega (arith, ap total_octets p) }
  starts (suc q) last b w e l m =
      let k : 0 < last = m (omega arith) in
      let z = suc-mul q most in
      let f : filled_from (limit - 12) (b ∷ w) ≡ onto (first_numbers b most) (closed (later_numbers b most ∷ w)) =
      filled_by_lem (limit - 12) b w (Part most) (next_part (limit - 12) b.count (omega arith) (omega arith)) in
      let p : plan_from limit (b ∷ w) ≡ (first_numbers b most ∷ []) ∷ plan_from limit (later_numbers b most ∷ w) = rw f at (plan_step limit b w enough) in
      let r : Starts q last (later_numbers b most) w = starts q last (later_numbers b most) w (omega arith) l (λ _. k) in
      record { packets = omega (arith, ap length p, r.packets); octets = omega (arith, ap total_octets p, r.octets, suc-mul q (12 + block_octets most)) }

  module _ (small : limit ≤ most_limit) where
    pub full_few : (m count q size : ℕ) → m ≡ most → count < 65536 → FullPackets m count q → size ≡ block_octets m
        → (q < most_added) × (q * (12 + size) ≤ 32767 * most_limit)
    full_few m count q size e h f g =
        let k : 2 ≤ m = omega arith in
        let a : q ≤ 32767 = omega (arith, f.within, mul-le-mul_left q k) in
        let d : 12 + size ≤ most_limit = omega arith in
        (omega arith, mul-le-mul a d)

    -- a range in packets of its own
    pub adds_new : (m count q size last : ℕ) → m ≡ most → count < 65536 → FullPackets m count q → size ≡ block_octets m → last ≡ block_octets (count - q * m)
        → Adds limit 0 count (record { packets = q + 1; octets = q * (12 + size) + 12 + last; room = limit - 12 - last })
    adds_new m count q size last e h f g d =
        let few = full_few m count q size e h f g in
        let within : q * most ≤ count = rw (← e) f.within in
        let from : (b : CutBlock) (w : List CutBlock) → b.count ≡ count → Starts q (count - q * most) b w =
        λ b w c. starts q (count - q * most) b w (omega arith) (rw (← e) f.last) (λ k. let z : q * most < count = rw (← e) (f.more k) in omega arith) in
        record {
          packets = λ b w c. rw (closed_0 (b ∷ w), d, e) (from b w c).packets;
          octets = λ b w c. rw (closed_0 (b ∷ w), d, g, e) (omega (arith, (from b w c).octets));
          few = omega (arith, few.0);
          small = omega (arith, few.1, f.last);
          left = omega arith;
        }

  -- a range that goes into the packet whole
  pub adds_whole : (room count : ℕ) → room ≤ most_limit → next_block room count ≡ Whole
      → Adds limit room count (record { packets = 0; octets = block_octets count; room = room - block_octets count })
  adds_whole room count h n =
      let k = whole_fits room count n in
      let f : (b : CutBlock) (w : List CutBlock) → b.count ≡ count → filled_from room (b ∷ w) ≡ onto b (filled_from (room - block_octets count) w) =
      λ b w e. filled_by_lem room b w Whole (ap (next_block room) e ∙ n) ∙ ap (λ (k : ℕ). onto b (filled_from (room - block_octets k) w)) e in
      record {
        packets = λ b w e. rw (f b w e) (omega arith);
        octets = λ b w e. rw (f b w e, e) (omega arith);
        few = omega arith;
        small = omega arith;
        left = omega arith;
      }

  -- and one that goes into it in part: the rest in packets of its own
  pub adds_part : (room count first : ℕ) (r : Added) → room ≤ most_limit → next_block room count ≡ Part first → Adds limit 0 (count - first) r
      → Adds limit room count (record { packets = r.packets; octets = block_octets first + r.octets; room = r.room })
  adds_part room count first r h n a =
      let k = part_fits room count first n in
      let f : (b : CutBlock) (w : List CutBlock) → b.count ≡ count
      → filled_from room (b ∷ w) ≡ onto (first_numbers b first) (closed (later_numbers b first ∷ w)) =
      λ b w e. filled_by_lem room b w (Part first) (ap (next_block room) e ∙ n) in
      record {
        packets = λ b w e. rw (f b w e) (rw (closed_0 (later_numbers b first ∷ w)) at (a.packets (later_numbers b first) w (omega arith)));
        octets = λ b w e. rw (f b w e) (omega (arith, rw (closed_0 (later_numbers b first ∷ w)) at (a.octets (later_numbers b first) w (omega arith))));
        few = a.few;
        small = omega (arith, a.small);
        left = a.left;
      }

  pub adds_closed : (room count : ℕ) (r : Added) → next_block room count ≡ Closed → Adds limit 0 count r → Adds limit room count r
  adds_closed room count r n a =
      let f : (b : CutBlock) (w : List CutBlock) → b.count ≡ count → filled_from room (b ∷ w) ≡ filled_from 0 (b ∷ w) =
      λ b w e. filled_by_lem room b w Closed (ap (next_block room) e ∙ n) ∙ sym (closed_0 (b ∷ w)) in
      record {
        packets = λ b w e. rw (f b w e) (a.packets b w e);
        octets = λ b w e. rw (f b w e) (a.octets b w e);
        few = a.few;
        small = omega (arith, a.small);
        left = a.left;
      }

-- ---- all requests

-- what was added for the first i of the requests
pub record Added-up (limit : ℕ) (rs : List Request) (made end room i : ℕ) : Type 0 where
  pub packets : made + packets_behind limit room (whole_blocks i (drop i rs)) ≡ length (plan limit rs)
  pub octets : end + octets_behind limit room (whole_blocks i (drop i rs)) ≡ total_octets (plan limit rs)
  pub few : made ≤ most_added * i
  pub small : end ≤ (most_added + 1) * most_limit * i
  pub left : room ≤ most_limit

module _ (limit : ℕ) (rs : List Request) where
  pub added_none : Added-up limit rs 0 0 0 0
  added_none = record {
    packets = rw (closed_0 (whole_blocks 0 rs)) (omega arith);
    octets = rw (closed_0 (whole_blocks 0 rs)) (omega arith);
    few = omega arith;
    small = omega arith;
    left = omega arith;
  }

  pub added_one : (made end room i : ℕ) (r : Added) → Added-up limit rs made end room i → i < length rs
      → Adds limit room (get_or rs i no_request).count r → Added-up limit rs (made + r.packets) (end + r.octets) r.room (i + 1)
  added_one made end room i r u h a =
      let e = blocks_cons rs i h in
      let w : List CutBlock = whole_blocks (i + 1) (drop (i + 1) rs) in
      record {
        packets = omega (arith, rw e at u.packets, a.packets (block_at rs i) w refl);
        octets = omega (arith, rw e at u.octets, a.octets (block_at rs i) w refl);
        few = omega (arith, u.few, a.few);
        small = omega (arith, u.small, a.small, u.left);
        left = a.left;
      }

  pub added_all : (made end room i : ℕ) → Added-up limit rs made end room i → length rs ≤ i
      → Measures (plan limit rs) (record { packets = made; octets = end })
  added_all made end room i u h =
      let e = blocks_none rs i h in
      let f : filled_from room (whole_blocks i (drop i rs)) ≡ closed [] = rw e (filled_none room) in
      record {
        packets = omega (arith, rw (f, plan_none limit) at u.packets);
        octets = omega (arith, rw (f, plan_none limit) at u.octets);
      }
