-- The plan's packets are filled up, and no other cutting's are. Assumes nothing.
use Rattle.std.proofs.Common.{◌≡◌, ℕ, zero, suc, ◌-◌, ◌<◌, ◌≤◌, cond, eqb, ◌≢◌, List, [], ◌∷◌, ◌++◌, sym, refl, ap, ◌∙◌, ap₂, arith, eq-eqb, ne_eqb}
use mathlib.Core.List.{cons-ne-nil}
use Rattle.lists.specs.All.{All}
use Rattle.lists.proofs.Cases.{split_eq, split_le}
use Rattle.packet.specs.Sizes.{packet_frame, block_octets, blocks_octets, packet_octets}
use Rattle.cutting.specs.declared.Request.{Request}
use Rattle.cutting.specs.Cutting.{CutBlock, CutPacket, Cutting, all_blocks, counts, NoStreamTwice, PacketRules}
use Rattle.cutting.specs.Filling.{one_more_of, with_next, NextDoesNotFit, FilledUp}
use Rattle.cutting.specs.Limits.{least_limit}
use Rattle.cutting.specs.Plan.{fitting, first_numbers, later_numbers, filled_from, packets_from, plan_from}
use Rattle.cutting.proofs.Plan.{filled_none, filled_cases, plan_none, plan_step}
use Rattle.cutting.proofs.Split.{Split, done, whole, part, split_head, split_nil, split_none}
use Rattle.cutting.proofs.Ahead.{ends}
use Rattle.cutting.proofs.FromRules.{Counted}
use Rattle.cutting.proofs.ToRules.{rounded, filled_counted}

-- ---- a packet with one number more

-- how many numbers `first_of` has of a block of k: one, or none if it is empty
abbrev first_count_lem : ℕ → ℕ
first_count_lem k = cond (eqb k 0) 0 1

first_count_none : (k : ℕ) → k ≡ 0 → first_count_lem k ≡ 0
first_count_none k e = rw (eq-eqb k 0 e)

first_count_some : (k : ℕ) → 0 < k → first_count_lem k ≡ 1
first_count_some k h = rw (ne_eqb k 0 (omega arith))

first_count : (k : ℕ) → (first_count_lem k ≤ 1) × (first_count_lem k ≤ k)
first_count k =
    split_eq k 0
    (λ e. let z = first_count_none k e in (omega arith, omega arith))
    (λ e. let z = first_count_some k (omega arith) in (omega arith, omega arith))

-- the same request goes on in the last block, another one begins a block
with_same : (a b : CutBlock) → a.request ≡ b.request → with_next (a ∷ []) b ≡ one_more_of a ∷ []
with_same a b e = rw (eq-eqb a.request b.request e)

with_other : (a : CutBlock) (p : CutPacket) (b : CutBlock) → a.request ≢ b.request → with_next (a ∷ p) b ≡ a ∷ with_next p b
with_other a [] b h = rw (ne_eqb a.request b.request h)
with_other a (d ∷ p) b h = refl

-- ---- a packet of the plan

-- the first of what is left to report does not go into the room of the packet
abbrev Full : ℕ → CutPacket → List CutBlock → Type 0
Full room p [] = Unit {0}
Full room p (b ∷ bs) = room < blocks_octets (counts (with_next p b))

-- a block in front takes its octets of the room
full_onto : (room : ℕ) (a : CutBlock) (p : CutPacket) (n : ℕ) (w : List CutBlock) → block_octets a.count ≤ room → a.request < n → Counted n w
    → Full (room - block_octets a.count) p w → Full room (a ∷ p) w
full_onto room a p n [] h l c f = tt
full_onto room a p n (b ∷ w) h l c f = rw (with_other a p b (omega (arith, c.0))) (omega arith)

-- the plan's packet is full
filled_full : (room n : ℕ) (w : List CutBlock) → Counted n w → Full room (filled_from room w).packet (filled_from room w).rest
filled_full room n [] c = rw (filled_none room) tt
filled_full room n (b ∷ w) c =
    filled_cases (λ f. Full room f.packet f.rest) room b w
    (λ h.
    let more : ℕ = room - block_octets b.count in
    let r = filled_counted more (suc n) w c.1 in
    full_onto room b (filled_from more w).packet r.0 (filled_from more w).rest h (omega (arith, c.0, r.3)) r.1 (filled_full more (suc n) w c.1))
    (λ h k. rw (with_same (first_numbers b (fitting room)) (later_numbers b (fitting room)) refl) (omega arith))
    (λ h k.
    split_eq b.count 0
    (λ e. omega (arith, first_count_none b.count e))
    (λ e. omega (arith, first_count_some b.count (omega arith))))

-- ---- packet after packet

-- a part of a block begins with the same number
with_part : (p : CutPacket) (b : CutBlock) (j : ℕ) → 0 < j → 0 < b.count → with_next p (first_numbers b j) ≡ with_next p b
with_part [] b j h k = rw (first_count_some j h, first_count_some b.count k)
with_part (a ∷ []) b j h k = rw (first_count_some j h, first_count_some b.count k)
with_part (a ∷ d ∷ p) b j h k = ap (λ (q : CutPacket). a ∷ q) (with_part (d ∷ p) b j h k)

-- the packet after a full one
next_packet_lem : (limit : ℕ) (p : CutPacket) (b : CutBlock) (w : List CutBlock) → least_limit ≤ limit → Full (limit - packet_frame) p (b ∷ w)
    → NextDoesNotFit limit p (filled_from (limit - packet_frame) (b ∷ w)).packet
next_packet_lem limit p b w l f =
    filled_cases (λ r. NextDoesNotFit limit p r.packet) (limit - packet_frame) b w
    (λ h. omega arith)
    (λ h k. rw (with_part p b (fitting (limit - packet_frame)) k (omega arith)) (omega arith))
    (λ h k. absurd (omega arith))

one_before : (fuel limit : ℕ) (p : CutPacket) (w : List CutBlock) → least_limit ≤ limit → Full (limit - packet_frame) p w
    → FilledUp limit (packets_from fuel limit w) → FilledUp limit (p ∷ packets_from fuel limit w)
unfolding packets_from
one_before zero limit p w l f h = tt
one_before (suc fuel) limit p [] l f h = tt
one_before (suc fuel) limit p (b ∷ w) l f h = (next_packet_lem limit p b w l f, h)

pub packets_filled : (fuel limit n : ℕ) (w : List CutBlock) → least_limit ≤ limit → Counted n w → FilledUp limit (packets_from fuel limit w)
unfolding packets_from
packets_filled zero limit n w l c = tt
packets_filled (suc fuel) limit n [] l c = tt
packets_filled (suc fuel) limit n (b ∷ w) l c =
    let rest : List CutBlock = (filled_from (limit - packet_frame) (b ∷ w)).rest in
    let r = filled_counted (limit - packet_frame) n (b ∷ w) c in
    one_before fuel limit (filled_from (limit - packet_frame) (b ∷ w)).packet rest l (filled_full (limit - packet_frame) n (b ∷ w) c)
    (packets_filled fuel limit r.0 rest l r.1)

-- ---- no other cutting is filled up

-- the plan's packet is p, and the blocks bs report what it leaves
abbrev Same : ℕ → List CutBlock → CutPacket → List CutBlock → Type 0
Same room w p bs = ((filled_from room w).packet ≡ p) × Split (filled_from room w).rest bs

split_fewer : {a b : CutBlock} {w bs : List CutBlock} → Split (a ∷ w) (b ∷ bs) → b.count ≤ a.count
split_fewer (whole e s) = omega (arith, ap (λ (x : CutBlock). x.count) e)
split_fewer (part e h l s) = omega arith

split_counted : {n : ℕ} {b : CutBlock} {w bs : List CutBlock} → Counted n w → Split w (b ∷ bs) → b.request ≡ n
split_counted c (whole e s) = ap (λ (x : CutBlock). x.request) e ∙ c.0
split_counted c (part e h l s) = ap (λ (x : CutBlock). x.request) e ∙ c.0

-- nothing more goes in
same_none : (room : ℕ) (w bs : List CutBlock) → Split w bs → Full room [] bs → Same room w [] bs
same_none room w [] s f = rw (split_nil s, filled_none room) (refl, done)
same_none room [] (b ∷ bs) s f = absurd (split_none s)
same_none room (a ∷ w) (b ∷ bs) s f =
    let k = first_count b.count in
    let l = split_fewer s in
    filled_cases (λ r. (r.packet ≡ []) × Split r.rest (b ∷ bs)) room a w
    (λ h. absurd (omega arith))
    (λ h g. absurd (omega arith))
    (λ h g. (refl, s))

-- a part of a request goes in
same_part : (room : ℕ) (a b : CutBlock) (w bs : List CutBlock) → b ≡ first_numbers a b.count → 0 < b.count → b.count < a.count
    → block_octets b.count ≤ room → Split (later_numbers a b.count ∷ w) bs → Full room (b ∷ []) bs → Same room (a ∷ w) (b ∷ []) bs
same_part room a b w [] e k l h s f = absurd (cons-ne-nil _ _ (split_nil s))
same_part room a b w (d ∷ bs) e k l h s f =
    let q : b.request ≡ d.request = ap (λ (x : CutBlock). x.request) e ∙ sym (split_head s) in
    let g : room < block_octets (suc b.count) = omega (arith, rw (with_same b d q) at f) in
    filled_cases (λ r. (r.packet ≡ b ∷ []) × Split r.rest (d ∷ bs)) room a w
    (λ m. absurd (omega arith))
    (λ m j. let z : fitting room ≡ b.count = omega arith in rw z (ap (λ (x : CutBlock). x ∷ []) (sym e), s))
    (λ m j. absurd (omega arith))

-- a block less in front gives back its octets of the room
full_off : (room : ℕ) (a : CutBlock) (p : CutPacket) (n : ℕ) (w bs : List CutBlock) → block_octets a.count ≤ room → a.request < n → Counted n w
    → Split w (p ++ bs) → Full room (a ∷ p) bs → Full (room - block_octets a.count) p bs
full_off room a p n w [] h l c s f = tt
full_off room a [] n w (b ∷ bs) h l c s f = omega (arith, rw (with_other a [] b (omega (arith, split_counted c s))) at f)
full_off room a (d ∷ p) n w (b ∷ bs) h l c s f = omega arith

-- a packet that is filled up is the plan's
same_packet : (rs : List Request) (room n : ℕ) {w : List CutBlock} (p : CutPacket) (bs : List CutBlock) → Counted n w → Split w (p ++ bs)
    → NoStreamTwice rs p → blocks_octets (counts p) ≤ room → Full room p bs → Same room w p bs
same_packet rs room n {w} [] bs c s o h f = same_none room w bs s f
same_packet rs room n (b ∷ p) bs c (whole {a = a} {w = w} e s) o h f =
    let k : b.count ≡ a.count = ap (λ (x : CutBlock). x.count) e in
    let i : b.request < suc n = omega (arith, ap (λ (x : CutBlock). x.request) e, c.0) in
    let more : ℕ = room - block_octets a.count in
    let g : Full more p bs = rw k at (full_off room b p (suc n) w bs (omega arith) i c.1 s f) in
    let r = same_packet rs more (suc n) {w = w} p bs c.1 s o.1 (omega arith) g in
    filled_cases (λ x. (x.packet ≡ b ∷ p) × Split x.rest bs) room a w
    (λ m. (ap₂ (λ (x : CutBlock) (q : CutPacket). x ∷ q) (sym e) r.0, r.1))
    (λ m j. absurd (omega arith))
    (λ m j. absurd (omega arith))
same_packet rs room n (b ∷ p) bs c (part {a = a} {w = w} e k l s) o h f =
    let z : p ≡ [] = ends rs bs b p (ap (λ (x : CutBlock). x.request) e) o.0 s in
    rw z (same_part room a b w bs e k l (omega arith) (rw z at s) (rw z at f))

-- each packet of a cutting that is filled up is full, and the cutting after it is filled up
full_packet : (limit : ℕ) (p : CutPacket) (c : Cutting) → least_limit ≤ limit → FilledUp limit (p ∷ c) → Full (limit - packet_frame) p (all_blocks c)
full_packet limit p [] l f = tt
full_packet limit p ([] ∷ c) l f = absurd f.0
full_packet limit p ((b ∷ q) ∷ c) l f =
    split_le (packet_octets (counts (with_next p b))) limit
    (λ h. absurd (omega (arith, f.0, (rounded (with_next p b)).0 h)))
    (λ h. omega arith)

filled_later : (limit : ℕ) (p : CutPacket) (c : Cutting) → FilledUp limit (p ∷ c) → FilledUp limit c
filled_later limit p [] f = tt
filled_later limit p (q ∷ c) f = f.1

-- a cutting that is filled up is the plan
pub packets_only : (rs : List Request) (limit n : ℕ) (w : List CutBlock) (c : Cutting) → least_limit ≤ limit → Counted n w → Split w (all_blocks c)
    → All (PacketRules limit rs) c → FilledUp limit c → c ≡ plan_from limit w
packets_only rs limit n w [] l k s o f = rw (split_nil s) (sym (plan_none limit))
packets_only rs limit n w ([] ∷ c) l k s o f = absurd (omega (arith, o.0.some))
packets_only rs limit n [] ((b ∷ p) ∷ c) l k s o f = absurd (split_none s)
packets_only rs limit n (a ∷ w) ((b ∷ p) ∷ c) l k s o f =
    let r = same_packet rs (limit - packet_frame) n {w = a ∷ w} (b ∷ p) (all_blocks c) k s o.0.once (omega (arith, o.0.fits)) (full_packet limit (b ∷ p) c l f) in
    let m = filled_counted (limit - packet_frame) n (a ∷ w) k in
    let rest : List CutBlock = (filled_from (limit - packet_frame) (a ∷ w)).rest in
    ap₂ (λ (q : CutPacket) (d : Cutting). q ∷ d) (sym r.0) (packets_only rs limit m.0 rest c l m.1 r.1 o.1 (filled_later limit (b ∷ p) c f))
    ∙ sym (plan_step limit a w l)
