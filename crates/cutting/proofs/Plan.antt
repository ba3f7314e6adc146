-- The plan: the next block of a packet, a packet by cases, and packet after packet. Assumes nothing.
use Rattle.std.proofs.Common.{◌≡◌, ℕ, zero, suc, ◌+◌, ◌-◌, ◌%◌, ◌<◌, ◌≤◌, ◌↔◌, List, [], ◌∷◌, refl, ap, ◌∙◌, zero-le, arith, le-leb}
use borrow.Author.Tests.{lt-leb}
use Rattle.lists.proofs.Cases.{never, split_le}
use Rattle.packet.specs.Sizes.{block_header_octets, block_octets, blocks_octets}
use Rattle.cutting.specs.declared.NextBlock.{NextBlock}
use Rattle.cutting.specs.Cutting.{CutBlock, Cutting, following, counts}
use Rattle.cutting.specs.Limits.{least_limit}
use Rattle.cutting.specs.Plan.{fitting, next_block, number_after, first_numbers, later_numbers, Filled, closed, onto, filled_by, filled_from, packets_from, most_packets, plan_from}
use Rattle.cutting.specs.declared.NextBlock.TheVariants.{Whole, Part, Closed}

-- a block of k numbers goes into the room left exactly if k is at most `fitting`
pub fitting_holds : (room k : ℕ) → block_header_octets ≤ room → (block_octets k ≤ room) ↔ (k ≤ fitting room)
fitting_holds room k h = (λ l. omega arith, λ l. omega arith)

pub after_sum : (s j : ℕ) → s < 65536 → number_after s j ≡ (s + j) % 65536
after_sum s zero h = omega arith
after_sum s (suc j) h = after_sum (following s) j (omega arith) ∙ omega arith

-- ---- the next block

pub next_whole : (room k : ℕ) → block_octets k ≤ room → next_block room k ≡ Whole
unfolding next_block
next_whole room k h = rw (le-leb (block_octets k) room h)

pub next_part : (room k : ℕ) → room < block_octets k → 0 < fitting room → next_block room k ≡ Part (fitting room)
unfolding next_block
next_part room k h l = rw (lt-leb (block_octets k) room h, le-leb 1 (fitting room) l)

pub next_closed : (room k : ℕ) → room < block_octets k → fitting room < 1 → next_block room k ≡ Closed
unfolding next_block
next_closed room k h l = rw (lt-leb (block_octets k) room h, lt-leb 1 (fitting room) l)

-- and what each says
pub whole_fits : (room k : ℕ) → next_block room k ≡ Whole → block_octets k ≤ room
whole_fits room k e =
    split_le (block_octets k) room (λ h. h)
    (λ h.
    split_le 1 (fitting room)
    (λ l. let p = next_part room k h l in never (cc))
    (λ l. let p = next_closed room k h l in never (cc)))

pub part_fits : (room k j : ℕ) → next_block room k ≡ Part j → (0 < j) × (j < k) × (block_octets j ≤ room)
part_fits room k j e =
    split_le (block_octets k) room
    (λ h. let p = next_whole room k h in never (cc))
    (λ h.
    split_le 1 (fitting room)
    (λ l. let p = next_part room k h l in let q : j ≡ fitting room = cc in (omega arith, omega arith, omega arith))
    (λ l. let p = next_closed room k h l in never (cc)))

-- ---- a packet

pub filled_none : (room : ℕ) → filled_from room [] ≡ closed []
unfolding filled_from
filled_none room = refl

-- how the packet is filled, by its next block
pub filled_by_lem : (room : ℕ) (b : CutBlock) (w : List CutBlock) (x : NextBlock) → next_block room b.count ≡ x
    → filled_from room (b ∷ w) ≡ filled_by x b w (filled_from (room - block_octets b.count) w)
unfolding filled_from
filled_by_lem room b w x e = rw e

-- To show P of a packet: the first range goes in whole, or in part, or not at all.
pub filled_cases : (P : Filled → Type 0) (room : ℕ) (b : CutBlock) (w : List CutBlock)
    → (block_octets b.count ≤ room → P (onto b (filled_from (room - block_octets b.count) w)))
    → (room < block_octets b.count → 0 < fitting room → P (onto (first_numbers b (fitting room)) (closed (later_numbers b (fitting room) ∷ w))))
    → (room < block_octets b.count → fitting room < 1 → P (closed (b ∷ w)))
    → P (filled_from room (b ∷ w))
filled_cases P room b w f g h =
    split_le (block_octets b.count) room
    (λ k. rw (filled_by_lem room b w _ (next_whole room b.count k)) (f k))
    (λ k.
    split_le 1 (fitting room)
    (λ l. rw (filled_by_lem room b w _ (next_part room b.count k l)) (g k l))
    (λ l. rw (filled_by_lem room b w _ (next_closed room b.count k l)) (h k l)))

pub filled_fits : (room : ℕ) (w : List CutBlock) → blocks_octets (counts (filled_from room w).packet) ≤ room
filled_fits room [] = rw (filled_none room) zero-le
filled_fits room (b ∷ w) =
    filled_cases (λ f. blocks_octets (counts f.packet) ≤ room) room b w
    (λ h. omega (arith, filled_fits (room - block_octets b.count) w))
    (λ h k. omega arith)
    (λ h k. zero-le)

-- ---- packet after packet

filled_few : (room : ℕ) (w : List CutBlock) → most_packets (filled_from room w).rest ≤ most_packets w
filled_few room [] = rw (filled_none room) zero-le
filled_few room (b ∷ w) =
    filled_cases (λ f. most_packets f.rest ≤ most_packets (b ∷ w)) room b w
    (λ h. omega (arith, filled_few (room - block_octets b.count) w))
    (λ h k. omega arith)
    (λ h k. omega arith)

-- a packet takes a number or an empty block
pub filled_less : (room : ℕ) (b : CutBlock) (w : List CutBlock) → 12 ≤ room → most_packets (filled_from room (b ∷ w)).rest < most_packets (b ∷ w)
filled_less room b w l =
    filled_cases (λ f. most_packets f.rest < most_packets (b ∷ w)) room b w
    (λ h. omega (arith, filled_few (room - block_octets b.count) w))
    (λ h k. omega arith)
    (λ h k. absurd (omega arith))

-- any bound that is large enough gives the same packets
packets_same : (limit : ℕ) → least_limit ≤ limit → (f g : ℕ) (w : List CutBlock) → most_packets w ≤ f → most_packets w ≤ g
    → packets_from f limit w ≡ packets_from g limit w
unfolding packets_from
packets_same limit l zero zero w h k = refl
packets_same limit l zero (suc g) [] h k = refl
packets_same limit l zero (suc g) (b ∷ w) h k = absurd (omega arith)
packets_same limit l (suc f) zero [] h k = refl
packets_same limit l (suc f) zero (b ∷ w) h k = absurd (omega arith)
packets_same limit l (suc f) (suc g) [] h k = refl
packets_same limit l (suc f) (suc g) (b ∷ w) h k =
    let less = filled_less (limit - 12) b w (omega arith) in
    ap (λ (c : Cutting). (filled_from (limit - 12) (b ∷ w)).packet ∷ c)
    (packets_same limit l f g (filled_from (limit - 12) (b ∷ w)).rest (omega arith) (omega arith))

pub plan_none : (limit : ℕ) → plan_from limit [] ≡ []
unfolding packets_from
plan_none limit = refl

-- the plan is a packet, and the plan of what that leaves
pub plan_step : (limit : ℕ) (b : CutBlock) (w : List CutBlock) → least_limit ≤ limit
    → plan_from limit (b ∷ w) ≡ (filled_from (limit - 12) (b ∷ w)).packet ∷ plan_from limit (filled_from (limit - 12) (b ∷ w)).rest
unfolding packets_from
plan_step limit b w l =
    let less = filled_less (limit - 12) b w (omega arith) in
    ap (λ (c : Cutting). (filled_from (limit - 12) (b ∷ w)).packet ∷ c)
    (packets_same limit l (b.count + most_packets w) (most_packets (filled_from (limit - 12) (b ∷ w)).rest)
    (filled_from (limit - 12) (b ∷ w)).rest (omega arith) (omega arith))
