-- Whatever is accepted is the octets of the packet that is given, the filler included. Assumes nothing.
use Prim.Native.Nat.{ℕ, ◌+◌, ◌-◌, ◌/◌}
use mathlib.Core.Path.{◌≡◌, refl, ap, ◌∙◌}
use mathlib.Core.List.{List, [], ◌∷◌, ◌++◌, map}
use native.Mathlib.Omega.{arith}
use lib.ListN.{length, get_or, drop}
use lib.Seq.{drop-length}
use Rattle.lists.proofs.Cases.{never}
use Rattle.octets.specs.Octets.{be16, be32, octets16, octets32, Octets}
use Rattle.octets.proofs.Small.{octet_at, less_16, less_32}
use Rattle.packet.specs.Packet.{Packet, encode_blocks, encode_packet, report_counts}
use Rattle.packet.specs.Sizes.{packet_octets}
use Rattle.walk.specs.Walk.{rts_at, Walked, walked, stopped, walk_of}
use Rattle.walk.specs.declared.ReportBlock.{ReportBlock}
use Rattle.reader.specs.Reading.{packet, block_in, packet_in, decoded, decode_packet}
use Rattle.reader.proofs.Answers.{walked_sound}
use Rattle.rewriter.proofs.Output.{octets_read}
use Rattle.packet_laws.specs.WrittenBack.{WrittenAs}
use Rattle.packet_laws.proofs.Back.{one_back, back_16, back_32, back_blocks}

module _ (s : List ℕ) (octets : Octets s) where
  walked_back : (bs : List ReportBlock) → walk_of s ≡ walked bs → WrittenAs s (packet_in s bs)
  unfolding encode_packet
  walked_back bs e =
      let w = walked_sound s bs e in
      let h = w.0 in
      let p = packet_in s bs in
      let b = back_blocks s octets 8 bs w.1 (omega (arith, h.long)) in
      let z : rts_at s + 4 ≡ length s = omega (arith, h.long) in
      let r : drop (rts_at s) s ≡ octets32 (be32 s (rts_at s)) ++ [] = rw (z, drop-length) at (back_32 s octets (rts_at s) (omega (arith, h.long))) in
      let total = octets_read s bs e in
      let words : be16 s 2 ≡ packet_octets (report_counts p.blocks) / 4 - 1 = omega (arith, h.words) in
      let first : get_or s 0 0 ≡ 0x8B = omega (arith, h.version, h.format, h.unpadded, octet_at s octets 0) in
      let d₀ : s ≡ 0x8B ∷ drop 1 s = rw first at (one_back s octets 0 (omega (arith, h.long))) in
      let d₁ : drop 1 s ≡ 0xCD ∷ drop 2 s = rw h.type at (one_back s octets 1 (omega (arith, h.long))) in
      let d₂ : drop 2 s ≡ octets16 (packet_octets (report_counts p.blocks) / 4 - 1) ++ drop 4 s = rw words at (back_16 s octets 2 (omega (arith, h.long))) in
      let d₄ = back_32 s octets 4 (omega (arith, h.long)) in
      record {
        octets =
            d₀ ∙ ap (λ (t : List ℕ). 0x8B ∷ t)
            (d₁ ∙ ap (λ (t : List ℕ). 0xCD ∷ t)
            (d₂ ∙ ap (λ (t : List ℕ). octets16 (packet_octets (report_counts p.blocks) / 4 - 1) ++ t)
            (d₄ ∙ ap (λ (t : List ℕ). octets32 (be32 s 4) ++ t)
            (b.are ∙ ap (λ (t : List ℕ). encode_blocks (map (block_in s) bs) ++ t) r))));
        fit = record { sender = less_32 s octets 4; rts = less_32 s octets (rts_at s); blocks = b.fit; words = omega (arith, less_16 s octets 2, h.words) };
      }

  pub written_back : (p : Packet) → decode_packet s ≡ packet p → WrittenAs s p
  unfolding decode_packet
  written_back p e = by_walk (walk_of s) refl e
    where
      by_walk : (w : Walked) → walk_of s ≡ w → decoded w s ≡ packet p → WrittenAs s p
      by_walk (walked bs) f k =
          let z : p ≡ packet_in s bs = cc in
          rw z (walked_back bs f)
      by_walk (stopped x) f k = never (cc)
