-- The plan stays ahead of every cutting. Assumes nothing.
use Rattle.std.proofs.Common.{◌≡◌, ℕ, zero, suc, ◌-◌, ◌<◌, ◌≤◌, ◌≢◌, List, [], ◌∷◌, ◌++◌, length, sym, refl, ap, ◌∙◌, suc-le-suc, zero-le, le_trans, arith}
use Rattle.lists.specs.All.{All}
use Rattle.packet.specs.Sizes.{block_octets, blocks_octets}
use Rattle.cutting.specs.declared.Request.{Request}
use Rattle.cutting.specs.Cutting.{CutBlock, CutPacket, Cutting, all_blocks, stream_of, NoStreamTwice, PacketRules, counts}
use Rattle.cutting.specs.Plan.{fitting, later_numbers, filled_from, packets_from}
use Rattle.cutting.proofs.Plan.{filled_none, filled_cases}
use Rattle.cutting.proofs.Split.{Split, whole, part, split_head, split_nil}

-- `w` is what is left of `v` after some of it
pub data Ahead : List CutBlock → List CutBlock → Type 0 where
  nil : Ahead [] []
  less : {a b : CutBlock} {v : List CutBlock} → a.count ≤ b.count → (0 < b.count → 0 < a.count) → Ahead (a ∷ v) (b ∷ v)
  skip : {b : CutBlock} {w v : List CutBlock} → Ahead w v → Ahead w (b ∷ v)

pub ahead_refl : (w : List CutBlock) → Ahead w w
ahead_refl [] = nil
ahead_refl (b ∷ w) = less {a = b} {b = b} (omega arith) (λ h. h)

ahead_nil : {w : List CutBlock} → Ahead w [] → w ≡ []
ahead_nil nil = refl

-- what a packet leaves is ahead of what it found
rest_ahead : (room : ℕ) (w : List CutBlock) → Ahead (filled_from room w).rest w
rest_ahead room [] = rw (filled_none room) nil
rest_ahead room (b ∷ w) =
    filled_cases (λ f. Ahead f.rest (b ∷ w)) room b w
    (λ h. skip (rest_ahead (room - block_octets b.count) w))
    (λ h k. less {a = later_numbers b (fitting room)} {b = b} (omega arith) (omega arith))
    (λ h k. ahead_refl (b ∷ w))

ahead_trans : {u v w : List CutBlock} → Ahead u v → Ahead v w → Ahead u w
ahead_trans a nil = a
ahead_trans nil (skip b) = skip (ahead_trans nil b)
ahead_trans (less p q) (less r s) = less (le_trans p r) (λ h. q (s h))
ahead_trans (skip a) (less r s) = skip a
ahead_trans (less p q) (skip b) = skip (ahead_trans (less p q) b)
ahead_trans (skip a) (skip b) = skip (ahead_trans (skip a) b)

-- Starting at `w`, which is ahead, the plan's packet goes at least as far as any other packet with no more
-- room: that one leaves `v` for the blocks `bs` after it.
record Leaves (room : ℕ) (w bs : List CutBlock) : Type 0 where
  v : List CutBlock
  split : Split v bs
  ahead : Ahead (filled_from room w).rest v

-- a packet ends where it has reported a part of a request
pub ends : (rs : List Request) {a : CutBlock} {w : List CutBlock} (bs : List CutBlock) (b : CutBlock) (p : CutPacket)
    → b.request ≡ a.request → All (λ d. stream_of rs b.request ≢ stream_of rs d.request) p
    → Split (a ∷ w) (p ++ bs) → p ≡ []
ends rs bs b [] e o s = refl
ends rs bs b (d ∷ p) e o s = absurd (o.0 (ap (stream_of rs) (e ∙ sym (split_head s))))

-- the plan has less left of the request that the packet cuts
part_ahead : (room : ℕ) (m a : CutBlock) (j : ℕ) (v : List CutBlock) → m.count ≤ a.count → (0 < a.count → 0 < m.count)
    → 0 < j → j < a.count → block_octets j ≤ room → Ahead (filled_from room (m ∷ v)).rest (later_numbers a j ∷ v)
part_ahead room m a j v l k p q f =
    filled_cases (λ r. Ahead r.rest (later_numbers a j ∷ v)) room m v
    (λ h. skip (rest_ahead (room - block_octets m.count) v))
    (λ h g. less {a = later_numbers m (fitting room)} {b = later_numbers a j} (omega arith) (omega arith))
    (λ h g. absurd (omega arith))

-- the plan takes whole a request that the packet takes whole
whole_ahead : (room : ℕ) (m : CutBlock) (v u : List CutBlock) → block_octets m.count ≤ room
    → Ahead (filled_from (room - block_octets m.count) v).rest u → Ahead (filled_from room (m ∷ v)).rest u
whole_ahead room m v u f h =
    filled_cases (λ r. Ahead r.rest u) room m v (λ l. h) (λ l k. absurd (omega arith)) (λ l k. absurd (omega arith))

step : (rs : List Request) (room : ℕ) {w v : List CutBlock} (p : CutPacket) {bs : List CutBlock}
    → Ahead w v → Split v (p ++ bs) → NoStreamTwice rs p → blocks_octets (counts p) ≤ room
    → Leaves room w bs
step rs room {w} {v} [] h s o f = record { v = v; split = s; ahead = ahead_trans (rest_ahead room w) h }
step rs room (b ∷ p) {bs = bs} nil s o f = elim s [ ]
step rs room (b ∷ p) (skip h) (whole e s) o f = step rs room p h s o.1 (omega arith)
step rs room (b ∷ p) (less {a = m} {b = a} {v = v} l k) (whole e s) o f =
    let c : b.count ≡ a.count = ap (λ (x : CutBlock). x.count) e in
    let g : block_octets m.count ≤ room = omega arith in
    let r : Leaves (room - block_octets m.count) v _ = step rs (room - block_octets m.count) p (ahead_refl v) s o.1 (omega arith) in
    record { v = r.v; split = r.split; ahead = whole_ahead room m v r.v g r.ahead }
step rs room {w} (b ∷ p) {bs} (skip {v = v} h) (part {a = a} e k l s) o f =
    let z : p ≡ [] = ends rs bs b p (ap (λ (x : CutBlock). x.request) e) o.0 s in
    record { v = later_numbers a b.count ∷ v; split = rw z at s; ahead = skip (ahead_trans (rest_ahead room w) h) }
step rs room (b ∷ p) {bs} (less {a = m} {b = a} {v = v} l k) (part e g q s) o f =
    let z : p ≡ [] = ends rs bs b p (ap (λ (x : CutBlock). x.request) e) o.0 s in
    record { v = later_numbers a b.count ∷ v; split = rw z at s; ahead = part_ahead room m a b.count v l k g q (omega arith) }

-- No cutting has fewer packets than the plan, however far the plan may count.
pub fewest : (rs : List Request) (limit fuel : ℕ) {w v : List CutBlock} (c : Cutting) → Ahead w v → Split v (all_blocks c) → All (PacketRules limit rs) c
    → length (packets_from fuel limit w) ≤ length c
unfolding packets_from
fewest rs limit zero c h s o = zero-le
fewest rs limit (suc fuel) [] h s o = rw (ahead_nil (rw (split_nil s) at h)) zero-le
fewest rs limit (suc fuel) {w = []} (p ∷ c) h s o = zero-le
fewest rs limit (suc fuel) {w = b ∷ w} (p ∷ c) h s o =
    let r : Leaves (limit - 12) (b ∷ w) (all_blocks c) = step rs (limit - 12) p h s o.0.once (omega (arith, o.0.fits)) in
    suc-le-suc (fewest rs limit fuel c r.ahead r.split o.1)
