-- What a turn of the writer does to the packet that is being filled. Assumes nothing.
use mathlib.Core.Path.{◌≡◌, refl, sym, ap, ◌∙◌}
use mathlib.Core.List.{List, [], ◌∷◌, ◌++◌, map}
use Prim.Native.Nat.{ℕ, ◌+◌, ◌-◌, ◌≤◌, ◌<◌, zero-le}
use native.Mathlib.Omega.{arith}
use native.Mathlib.Nat.{sub-zero}
use lib.ListN.{length, drop, get_or}
use lib.Seq.{sets}
use Rattle.octets.proofs.Sets.{sets_next}
use Rattle.packet.specs.Packet.{encode_block, encode_blocks}
use Rattle.packet.specs.Sizes.{block_octets, blocks_octets, packet_header_octets}
use Rattle.packet.proofs.Sizes.{length_block}
use Rattle.cutting.specs.Cutting.{CutBlock, numbers_from, whole_blocks, counts}
use Rattle.cutting.specs.Plan.{next_block, number_after, first_numbers, later_numbers, Filled, closed, onto, filled_from}
use Rattle.cutting.specs.declared.Request.{Request}
use Rattle.cutting.proofs.Plan.{filled_none, filled_by_lem}
use Rattle.cutting.proofs.Requests.{no_request, blocks_cons, blocks_none, stream_at, after_add}
use Rattle.blocks.specs.declared.Position.{Position}
use Rattle.blocks.specs.Packets.{report_block}
use Rattle.blocks.specs.Steps.{skip_numbers, remaining, InFirst, InRange, PutBlocks}
use Rattle.report_block.proofs.Metrics.{length_of_lem}
use Rattle.cutting.specs.declared.NextBlock.TheVariants.{Whole, Part, Closed}

-- ---- positions

abbrev pub position : ℕ → ℕ → Position
position i j = record { request = i; reported = j }

skip_none : (w : List CutBlock) → skip_numbers 0 w ≡ w
skip_none [] = refl
skip_none (b ∷ w) = rw sub-zero

in_none : (w : List CutBlock) → InFirst 0 w
in_none [] = tt
in_none (b ∷ w) = zero-le

-- the range of the request i without its first j numbers
abbrev pub range_at_lem : List Request → ℕ → ℕ → CutBlock
range_at_lem rs i j = later_numbers (record { request = i; begin = (get_or rs i no_request).begin; count = (get_or rs i no_request).count }) j

module _ (rs : List Request) where
  pub remaining_at : (i j : ℕ) → i < length rs → remaining rs (position i j) ≡ range_at_lem rs i j ∷ whole_blocks (i + 1) (drop (i + 1) rs)
  remaining_at i j h = rw (blocks_cons rs i h)

  pub remaining_next : (i : ℕ) → remaining rs (position i 0) ≡ whole_blocks i (drop i rs)
  remaining_next i = skip_none (whole_blocks i (drop i rs))

  pub remaining_past : (i j : ℕ) → length rs ≤ i → remaining rs (position i j) ≡ []
  remaining_past i j h = rw (blocks_none rs i h)

  pub range_at : (i j : ℕ) → i < length rs → InRange rs (position i j) → j ≤ (get_or rs i no_request).count
  range_at i j h r = rw (blocks_cons rs i h) at r

  pub range_in : (i j : ℕ) → i < length rs → j ≤ (get_or rs i no_request).count → InRange rs (position i j)
  range_in i j h l = rw (blocks_cons rs i h) l

  pub range_start : (i : ℕ) → InRange rs (position i 0)
  range_start i = in_none (whole_blocks i (drop i rs))

  -- ---- the packet that starts at a position, by its next block

  module _ (i j room count : ℕ) (h : i < length rs) (e : count ≡ (get_or rs i no_request).count - j) where
    pub next_whole : next_block room count ≡ Whole
        → filled_from room (remaining rs (position i j))
        ≡ onto (first_numbers (range_at_lem rs i j) count) (filled_from (room - block_octets count) (remaining rs (position (i + 1) 0)))
    next_whole b =
        rw (remaining_at i j h, remaining_next (i + 1), e)
        (filled_by_lem room (range_at_lem rs i j) (whole_blocks (i + 1) (drop (i + 1) rs)) Whole (ap (next_block room) (sym e) ∙ b))

    pub next_part : (k : ℕ) → next_block room count ≡ Part k
        → filled_from room (remaining rs (position i j)) ≡ onto (first_numbers (range_at_lem rs i j) k) (closed (remaining rs (position i (j + k))))
    next_part k b =
        let c : (get_or rs i no_request).count - j - k ≡ (get_or rs i no_request).count - (j + k) = omega arith in
        rw (remaining_at i j h, remaining_at i (j + k) h, ← after_add (get_or rs i no_request).begin j k, ← c)
        (filled_by_lem room (range_at_lem rs i j) (whole_blocks (i + 1) (drop (i + 1) rs)) (Part k) (ap (next_block room) (sym e) ∙ b))

    pub next_closed : next_block room count ≡ Closed
        → filled_from room (remaining rs (position i j)) ≡ closed (remaining rs (position i j))
    next_closed b =
        rw (remaining_at i j h)
        (filled_by_lem room (range_at_lem rs i j) (whole_blocks (i + 1) (drop (i + 1) rs)) Closed (ap (next_block room) (sym e) ∙ b))

  pub next_past : (i j room : ℕ) → length rs ≤ i → filled_from room (remaining rs (position i j)) ≡ closed (remaining rs (position (length rs) 0))
  next_past i j room h = rw (remaining_past i j h, remaining_past (length rs) 0 (omega arith)) (filled_none room)

  -- the block that was written is that of the position
  pub block_here : (metric : ℕ → ℕ → ℕ) (out out' : List ℕ) (at i j k begin : ℕ) → i < length rs → begin ≡ number_after (get_or rs i no_request).begin j
      → out' ≡ sets out at (encode_block (record { ssrc = (get_or rs i no_request).ssrc; begin = begin; metrics = map (metric i) (numbers_from begin k) }))
      → out' ≡ sets out at (encode_block (report_block metric rs (first_numbers (range_at_lem rs i j) k)))
  block_here metric out out' at i j k begin h e o = rw (stream_at rs i, ← e) o

-- ---- a packet on the way

module _ (metric : ℕ → ℕ → ℕ) (rs : List Request) where
  abbrev blocks_for : Filled → List ℕ
  blocks_for f = encode_blocks (map (report_block metric rs) f.packet)

  -- `f`, written onto `out` at `at`, gives what `f₀`, written onto `out₀` at `at₀`, gives; both end at the
  -- same octet, and leave the same
  pub record Filling (out : List ℕ) (at : ℕ) (f : Filled) (out₀ : List ℕ) (at₀ : ℕ) (f₀ : Filled) : Type 0 where
    pub content : sets out at (blocks_for f) ≡ sets out₀ at₀ (blocks_for f₀)
    pub ends : at + blocks_octets (counts f.packet) ≡ at₀ + blocks_octets (counts f₀.packet)
    pub rest : f.rest ≡ f₀.rest

  pub filling_start : (out : List ℕ) (at : ℕ) (f : Filled) → Filling out at f out at f
  filling_start out at f = record { content = refl; ends = refl; rest = refl }

  length_reported : (b : CutBlock) → length (encode_block (report_block metric rs b)) ≡ block_octets b.count
  length_reported b = length_block (report_block metric rs b) ∙ ap block_octets (length_of_lem (metric b.request) b.begin b.count)

  module _ (out : List ℕ) (at : ℕ) (f : Filled) (out₀ : List ℕ) (at₀ : ℕ) (f₀ : Filled) (g : Filling out at f out₀ at₀ f₀) where
    -- the next block has room
    pub filling_room : (b : CutBlock) (f' : Filled) → f ≡ onto b f' → at + block_octets b.count ≤ at₀ + blocks_octets (counts f₀.packet)
    filling_room b f' e = omega (arith, g.ends, ap (λ (z : Filled). blocks_octets (counts z.packet)) e)

    -- and is written
    pub filling_on : (b : CutBlock) (f' : Filled) (out' : List ℕ) (size : ℕ) → f ≡ onto b f'
        → out' ≡ sets out at (encode_block (report_block metric rs b)) → size ≡ block_octets b.count
        → Filling out' (at + size) f' out₀ at₀ f₀
    unfolding encode_blocks
    filling_on b f' out' size e o d =
        let x = encode_block (report_block metric rs b) in
        let t : blocks_for f ≡ x ++ blocks_for f' = ap blocks_for e in
        record {
          content =
              rw o (sets_next x (blocks_for f') out at (at + size) (ap (λ (z : ℕ). at + z) (length_reported b ∙ sym d)) ∙ ap (sets out at) (sym t) ∙ g.content);
          ends = omega (arith, g.ends, ap (λ (z : Filled). blocks_octets (counts z.packet)) e);
          rest = sym (ap (λ (z : Filled). z.rest) e) ∙ g.rest;
        }

  -- nothing more goes into the packet
  pub filling_done : (out out₀ : List ℕ) (at : ℕ) (f f₀ : Filled) (p : Position) → Filling out at f out₀ packet_header_octets f₀
      → f ≡ closed (remaining rs p) → InRange rs p → PutBlocks metric rs f₀ out₀ out (record { rest = p; octets = at })
  unfolding encode_blocks
  filling_done out out₀ at f f₀ p g e r =
      let t : blocks_for f ≡ [] = ap blocks_for e in
      record {
        content = sym (ap (sets out at) t) ∙ g.content;
        rest = sym (ap (λ (z : Filled). z.rest) e) ∙ g.rest;
        octets = omega (arith, g.ends, ap (λ (z : Filled). blocks_octets (counts z.packet)) e);
        range = r;
      }
