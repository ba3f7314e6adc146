-- A packet that is written, and packets back to back. Assumes nothing.
use mathlib.Core.Path.{◌≡◌, refl, sym, ap, ◌∙◌}
use mathlib.Core.List.{List, [], ◌∷◌, ◌++◌, map}
use Prim.Native.Nat.{ℕ, ◌+◌, ◌-◌, ◌≤◌, ◌<◌}
use native.Mathlib.Omega.{arith}
use native.Mathlib.Nat.{add-zero}
use lib.ListN.{length, drop}
use lib.Seq.{sets}
use borrow.Rule.Slice.PartMut.{mid_of, put_mid}
use Rattle.octets.specs.Octets.{octets32}
use Rattle.octets.proofs.Sets.{sets_next, sets_first, sets_part}
use Rattle.packet.specs.Sizes.{blocks_octets, packet_octets}
use Rattle.packet.proofs.Sizes.{length_blocks, length_packet}
use Rattle.cutting.specs.Cutting.{CutBlock, CutPacket, Cutting, whole_blocks, counts}
use Rattle.cutting.specs.Limits.{least_limit}
use Rattle.cutting.specs.Plan.{filled_from, plan_from, plan, most_packets, total_octets}
use Rattle.cutting.specs.declared.Request.{Request}
use Rattle.cutting.proofs.Plan.{filled_fits, filled_less, plan_none, plan_step}
use Rattle.blocks.specs.declared.Position.{Position}
use Rattle.blocks.specs.Packets.{report_block, report_packet, encode_packets}
use Rattle.blocks.specs.Steps.{remaining, next_packet}
use Rattle.report_block.proofs.Metrics.{length_of_lem}
use Rattle.blocks.proofs.Blocks.{range_at_lem, remaining_at, remaining_next, remaining_past}
use Rattle.packet.specs.Packet as packet

-- rule "Within the limit", of a packet of the plan
pub packet_fits : (limit : ℕ) (w : List CutBlock) → 12 ≤ limit → packet_octets (counts (filled_from (limit - 12) w).packet) ≤ limit
packet_fits limit w h = omega (arith, filled_fits (limit - 12) w)

module _ (metric : ℕ → ℕ → ℕ) (rs : List Request) where
  -- the sizes of a packet of the plan, and of what is written of it
  pub blocks_octets_lem : (p : CutPacket) → blocks_octets (packet.report_counts (map (report_block metric rs) p)) ≡ blocks_octets (counts p)
  blocks_octets_lem [] = refl
  blocks_octets_lem (b ∷ p) = rw (length_of_lem (metric b.request) b.begin b.count, blocks_octets_lem p)

  module _ (sender rts : ℕ) where
    pub length_report : (p : CutPacket) → length (packet.encode_packet (report_packet metric rs sender rts p)) ≡ packet_octets (counts p)
    length_report p = length_packet (report_packet metric rs sender rts p) ∙ ap (λ (z : ℕ). 12 + z) (blocks_octets_lem p)

    -- the blocks, RTS behind them, and the header before them
    pub packet_parts : (p : CutPacket) (out o₁ o₂ o₃ : List ℕ) (end : ℕ)
        → o₁ ≡ sets out 8 (packet.encode_blocks (map (report_block metric rs) p)) → end ≡ 8 + blocks_octets (counts p)
        → o₂ ≡ sets o₁ end (octets32 rts) → o₃ ≡ sets o₂ 0 (packet.packet_header (end + 4) sender)
        → o₃ ≡ sets out 0 (packet.encode_packet (report_packet metric rs sender rts p))
    unfolding packet.encode_packet
    packet_parts p out o₁ o₂ o₃ end e₁ f e₂ e₃ =
        let bs = packet.encode_blocks (map (report_block metric rs) p) in
        let size : ℕ = packet_octets (packet.report_counts (report_packet metric rs sender rts p).blocks) in
        let g : end + 4 ≡ size = omega (arith, blocks_octets_lem p) in
        let a = sets_next bs (octets32 rts) out 8 end (omega (arith, length_blocks (map (report_block metric rs) p), blocks_octets_lem p)) in
        let b = sets_first (packet.packet_header size sender) (bs ++ octets32 rts) out 0 8 (omega arith) in
        let d = sets_next (packet.packet_header size sender) (bs ++ octets32 rts) out 0 8 refl in
        rw (e₃, g, e₂, e₁, a, b, d)

-- ---- the plan that starts at a position

module _ (rs : List Request) (limit : ℕ) (enough : least_limit ≤ limit) where
  abbrev pub plan_at : Position → Cutting
  plan_at p = plan_from limit (remaining rs p)

  pub plan_start : plan_at (record { request = 0; reported = 0 }) ≡ plan limit rs
  plan_start = ap (plan_from limit) (remaining_next rs 0)

  -- a packet, and the others
  pub plan_on : (p : Position) (w : List CutBlock) → p.request < length rs → w ≡ (next_packet limit rs p).rest
      → plan_at p ≡ (next_packet limit rs p).packet ∷ plan_from limit w
  plan_on p w h e =
      rw (e, remaining_at rs p.request p.reported h)
      (plan_step limit (range_at_lem rs p.request p.reported) (whole_blocks (p.request + 1) (drop (p.request + 1) rs)) enough)

  pub plan_less : (p : Position) (w : List CutBlock) → p.request < length rs → w ≡ (next_packet limit rs p).rest
      → most_packets w < most_packets (remaining rs p)
  plan_less p w h e =
      rw (e, remaining_at rs p.request p.reported h)
      (filled_less (limit - 12) (range_at_lem rs p.request p.reported) (whole_blocks (p.request + 1) (drop (p.request + 1) rs)) (omega arith))

  pub plan_over : (p : Position) → length rs ≤ p.request → plan_at p ≡ []
  plan_over p h = rw (remaining_past rs p.request p.reported h) (plan_none limit)

-- ---- packets back to back

module _ (metric : ℕ → ℕ → ℕ) (rs : List Request) (sender rts : ℕ) where
  abbrev pub octets_of : Cutting → List ℕ
  octets_of c = encode_packets (map (report_packet metric rs sender rts) c)

  -- `c`, written onto `out` at `end`, gives what `c₀`, written onto `out₀`, gives
  pub record Writing (out : List ℕ) (end : ℕ) (c : Cutting) (out₀ : List ℕ) (c₀ : Cutting) : Type 0 where
    pub content : sets out end (octets_of c) ≡ sets out₀ 0 (octets_of c₀)
    pub ends : end + total_octets c ≡ total_octets c₀

  pub writing_start : (out : List ℕ) (c c₀ : Cutting) → c ≡ c₀ → Writing out 0 c out c₀
  writing_start out c c₀ e = rw e (record { content = refl; ends = omega arith })

  module _ (out : List ℕ) (end : ℕ) (c : Cutting) (out₀ : List ℕ) (c₀ : Cutting) (g : Writing out end c out₀ c₀) where
    -- the next packet has room
    pub writing_room : (p : CutPacket) (c' : Cutting) → c ≡ p ∷ c' → end + packet_octets (counts p) ≤ total_octets c₀
    writing_room p c' e = omega (arith, g.ends, ap total_octets e)

    -- and is written to the output from `end` on
    pub writing_on : (p : CutPacket) (c' : Cutting) (last : List ℕ) (size : ℕ) → c ≡ p ∷ c' → end ≤ length out → size ≡ packet_octets (counts p)
        → last ≡ sets (mid_of end (length out - end) out) 0 (packet.encode_packet (report_packet metric rs sender rts p))
        → Writing (put_mid end (length out - end) out last) (end + size) c' out₀ c₀
    unfolding encode_packets
    writing_on p c' last size e h f l =
        let x = packet.encode_packet (report_packet metric rs sender rts p) in
        let t : octets_of c ≡ x ++ octets_of c' = ap octets_of e in
        let s = sets_part x out end 0 h in
        record {
          content =
              rw (l, s, add-zero) (sets_next x (octets_of c') out end (end + size) (ap (λ (z : ℕ). end + z) (length_report metric rs sender rts p ∙ sym f))
              ∙ ap (sets out end) (sym t) ∙ g.content);
          ends = omega (arith, g.ends, ap total_octets e);
        }

    pub writing_done : c ≡ [] → out ≡ sets out₀ 0 (octets_of c₀)
    unfolding encode_packets
    writing_done e = let t : octets_of c ≡ [] = ap octets_of e in sym (ap (sets out end) t) ∙ g.content
