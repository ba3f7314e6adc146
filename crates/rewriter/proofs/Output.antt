-- What the rewriter's steps leave in the output. Assumes nothing.
use Prim.Native.Nat.{ℕ, zero, suc, ◌+◌, ◌*◌, ◌<◌, ◌≤◌}
use mathlib.Core.Path.{◌≡◌, refl, sym, ap, ◌∙◌}
use mathlib.Core.List.{List, [], ◌∷◌, ◌++◌, map}
use native.Mathlib.Omega.{arith}
use borrow.Author.Tests.{lt-ltb, le-ltb}
use lib.ListN.{length, length-map}
use lib.Seq.{sets}
use Rattle.refusal.specs.declared.Refusal.{Refusal}
use Rattle.octets.specs.Octets.{be32, octets32}
use Rattle.octets.specs.Output.{output_after}
use Rattle.octets.proofs.Sets.{sets_next, sets_twice}
use Rattle.packet.specs.Packet.{Block, filler, block_header, encode_block, encode_blocks, packet_header, encode_packet, Packet, report_counts}
use Rattle.packet.specs.Sizes.{block_octets, blocks_octets, packet_octets}
use Rattle.packet.proofs.Sizes.{length_metrics, length_block, length_blocks}
use Rattle.walk.specs.Walk.{rts_at, step_at, walked, walk_from, walk_of}
use Rattle.walk.specs.declared.ReportBlock.{ReportBlock}
use Rattle.packet_header.specs.declared.Cursor.{Cursor}
use Rattle.std.specs.Prelude.{Option, Result, Some, None, Ok, Err}
use Rattle.walk.proofs.Steps.{step_end, found, next_at, next_more, next_room}
use Rattle.walk.proofs.Walks.{walk_ind}
use Rattle.reader.specs.Reading.{metrics_at_of, block_in, packet_in, decode_packet}
use Rattle.reader.specs.Steps.{counted}
use Rattle.reader.proofs.Answers.{length_metrics_at, walked_sound, blocks_walked}
use Rattle.metric_rewriter.specs.Metrics.{rewrite_metric}
use Rattle.metric_rewriter.proofs.Metrics.{rewritten_octets}
use Rattle.rewriter.specs.Rewrite.{rewrite_block, rewrite_of, rewrite_packet}
use Rattle.rewriter.specs.Steps.{on_block, rewritten_from}
use Rattle.refusal.specs.declared.Refusal.TheVariants.{OutputTooShort}

-- rewriting changes no size
pub rewrite_blocks_octets : (bs : List Block) → blocks_octets (report_counts (map rewrite_block bs)) ≡ blocks_octets (report_counts bs)
rewrite_blocks_octets [] = refl
rewrite_blocks_octets (b ∷ bs) = rw (length-map b.metrics rewrite_metric, rewrite_blocks_octets bs)

pub rewrite_octets : (p : Packet) → packet_octets (report_counts (rewrite_packet p).blocks) ≡ packet_octets (report_counts p.blocks)
rewrite_octets p = rw (rewrite_blocks_octets p.blocks)

module _ (s : List ℕ) where
  pub length_rewrite : (i n : ℕ) → length (map rewrite_metric (metrics_at_of s i n)) ≡ n
  length_rewrite i n = length-map (metrics_at_of s i n) rewrite_metric ∙ length_metrics_at s n i

  -- a block is written in three parts
  pub block_written : (b : ReportBlock) (out o₁ o₂ o₃ : List ℕ) (at : ℕ) → b.metrics_at ≡ at + 8
      → o₁ ≡ sets out at (block_header b.ssrc b.begin_seq b.num_reports)
      → o₂ ≡ sets o₁ (at + 8) (rewritten_octets s (at + 8) b.num_reports)
      → o₃ ≡ sets o₂ (at + 8 + 2 * b.num_reports) (filler b.num_reports)
      → o₃ ≡ sets out at (encode_block (rewrite_block (block_in s b)))
  unfolding encode_block
  block_written b out o₁ o₂ o₃ at m e₁ e₂ e₃ =
      let n = b.num_reports in
      let l : length (rewritten_octets s (at + 8) n) ≡ 2 * n = length_metrics (map rewrite_metric (metrics_at_of s (at + 8) n))
      ∙ ap (λ (x : ℕ). 2 * x) (length_rewrite (at + 8) n) in
      let e : o₃ ≡ sets o₁ (at + 8) (rewritten_octets s (at + 8) n ++ filler n) =
      sets_twice (rewritten_octets s (at + 8) n) (filler n) o₁ o₂ o₃ (at + 8) (at + 8 + 2 * n) e₂ e₃ (omega (arith, l)) in
      rw (m, length_rewrite (at + 8) n)
      (sets_twice (block_header b.ssrc b.begin_seq n) (rewritten_octets s (at + 8) n ++ filler n) out o₁ o₃ at (at + 8) e₁ e refl)

  -- any bound that is enough gives the same octets
  rewritten_enough : (n m at : ℕ) → length s ≤ n + at → length s ≤ m + at → rewritten_from n s at ≡ rewritten_from m s at
  unfolding rewritten_from
  rewritten_enough zero zero at g h = refl
  rewritten_enough zero (suc m) at g h = rw (← step_end s at (omega arith))
  rewritten_enough (suc n) zero at g h = rw (← step_end s at (omega arith))
  rewritten_enough (suc n) (suc m) at g h =
      by_step (step_at s at)
      (λ b next f. rewritten_enough n m next.at (omega (arith, next_more s at b next f)) (omega (arith, next_more s at b next f))) refl
    where
      by_step : (k : Result (Option (ReportBlock × Cursor)) Refusal) → ((b : ReportBlock) (next : Cursor) → step_at s at ≡ Ok (Some (b, next)) → rewritten_from n s next.at ≡ rewritten_from m s next.at)
          → step_at s at ≡ k
          → on_block k (λ b i. encode_block (rewrite_block (block_in s b)) ++ rewritten_from n s i)
          ≡ on_block k (λ b i. encode_block (rewrite_block (block_in s b)) ++ rewritten_from m s i)
      by_step (Ok (Some (b, next))) rest f = ap (λ (t : List ℕ). encode_block (rewrite_block (block_in s b)) ++ t) (rest b next f)
      by_step (Ok None) rest f = refl
      by_step (Err x) rest f = refl

  abbrev pub rewritten_rest : ℕ → List ℕ
  rewritten_rest at = rewritten_from (length s) s at

  rewritten_step : (at : ℕ) → rewritten_rest at ≡ on_block (step_at s at) (λ b i. encode_block (rewrite_block (block_in s b)) ++ rewritten_rest i)
  unfolding rewritten_from
  rewritten_step at = rewritten_enough (length s) (suc (length s)) at (omega arith) (omega arith)

  block_size : (at : ℕ) (b : ReportBlock) (next : Cursor) → step_at s at ≡ Ok (Some (b, next)) → at + block_octets b.num_reports ≡ next.at
  block_size at b next e = rw (found s at b next e).is (sym (next_at s at b next e))

  module _ (at : ℕ) (k : Result (Option (ReportBlock × Cursor)) Refusal) (is : k ≡ step_at s at) where
    -- a turn over the blocks
    pub block_turn : (b : ReportBlock) (next : Cursor) (out o₁ : List ℕ) → k ≡ Ok (Some (b, next)) → o₁ ≡ sets out at (encode_block (rewrite_block (block_in s b)))
        → sets o₁ next.at (rewritten_rest next.at) ≡ sets out at (rewritten_rest at)
    block_turn b next out o₁ e w =
        let f : step_at s at ≡ Ok (Some (b, next)) = sym is ∙ e in
        let q = rewrite_block (block_in s b) in
        let t : rewritten_rest at ≡ encode_block q ++ rewritten_rest next.at = rewritten_step at ∙ rw f in
        rw (t, w)
        (sets_next (encode_block q) (rewritten_rest next.at) out at next.at
        (omega (arith, length_block q, length_rewrite b.metrics_at b.num_reports, block_size at b next f)))

    pub blocks_end : (out : List ℕ) → k ≡ Ok None → out ≡ sets out at (rewritten_rest at)
    blocks_end out e = rw (rewritten_step at, ← is, e)

    pub blocks_refused : (out : List ℕ) (x : Refusal) → k ≡ Err x → out ≡ sets out at (rewritten_rest at)
    blocks_refused out x e = rw (rewritten_step at, ← is, e)

    -- what `rewrite_block` asks of a block that was found
    pub block_here : (b : ReportBlock) (next : Cursor) → k ≡ Ok (Some (b, next)) → (b.metrics_at ≡ at + 8) × (at + block_octets b.num_reports ≤ length s)
    block_here b next e =
        let f : step_at s at ≡ Ok (Some (b, next)) = sym is ∙ e in
        (ap (λ (x : ReportBlock). x.metrics_at) (found s at b next f).is, omega (arith, block_size at b next f, next_room s at b next f))

  -- ---- the whole packet

  -- the octets of the blocks of a walk that is not stopped
  rewritten_blocks : (at : ℕ) (bs : List ReportBlock) → walk_from s at ≡ walked bs → rewritten_rest at ≡ encode_blocks (map rewrite_block (map (block_in s) bs))
  unfolding encode_blocks
  rewritten_blocks =
      walk_ind s (λ at bs. rewritten_rest at ≡ encode_blocks (map rewrite_block (map (block_in s) bs)))
      (λ at h. rewritten_step at ∙ rw (← step_end s at h))
      (λ at b next bs f r. rewritten_step at ∙ rw (f, r))

  -- they fill the room up to RTS
  blocks_fill : (at : ℕ) (bs : List ReportBlock) → walk_from s at ≡ walked bs → at ≤ rts_at s → at + blocks_octets (report_counts (map (block_in s) bs)) ≡ rts_at s
  blocks_fill =
      walk_ind s (λ at bs. at ≤ rts_at s → at + blocks_octets (report_counts (map (block_in s) bs)) ≡ rts_at s)
      (λ at h l. omega arith)
      (λ at b next bs f r l.
      let e = r (next_room s at b next f) in
      omega (arith, block_size at b next f, length_metrics_at s b.num_reports b.metrics_at))

  -- the octets given are those of the packet that is read
  pub octets_read : (bs : List ReportBlock) → walk_of s ≡ walked bs → packet_octets (report_counts (packet_in s bs).blocks) ≡ length s
  octets_read bs e =
      let h = walked_sound s bs e in
      omega (arith, h.0.long, blocks_fill 8 bs h.1 (omega (arith, h.0.long)))

  module _ (out : List ℕ) (k : Result ℕ Refusal) (is : k ≡ counted 0 (walk_of s)) where
    module _ (n : ℕ) (sound : k ≡ Ok n) where
      pub rewrite_short : length out < length s → output_after (Err OutputTooShort) out ≡ rewrite_of (decode_packet s) out
      unfolding decode_packet
      rewrite_short h = blocks_walked s k is n sound (λ bs l e. rw (e, octets_read bs e) (simp (lt-ltb (length out) (length s) h)))

      pub rewrite_written : (o₁ o₂ o₃ : List ℕ) → length s ≤ length out
          → o₁ ≡ sets out 0 (packet_header (length s) (be32 s 4))
          → o₂ ≡ sets o₁ 8 (rewritten_rest 8)
          → o₃ ≡ sets o₂ (rts_at s) (octets32 (be32 s (rts_at s)))
          → output_after (Ok (length s)) o₃ ≡ rewrite_of (decode_packet s) out
      unfolding decode_packet encode_packet
      rewrite_written o₁ o₂ o₃ room e₁ e₂ e₃ =
          blocks_walked s k is n sound (λ bs l e.
          let h = walked_sound s bs e in
          let p = packet_in s bs in
          let t = encode_blocks (map rewrite_block p.blocks) in
          let z : rewritten_rest 8 ≡ t = rewritten_blocks 8 bs h.1 in
          let size = octets_read bs e in
          let lt : length t ≡ blocks_octets (report_counts p.blocks) = length_blocks (map rewrite_block p.blocks) ∙ rewrite_blocks_octets p.blocks in
          let last : o₃ ≡ sets o₁ 8 (t ++ octets32 p.rts) =
          sets_twice t (octets32 p.rts) o₁ o₂ o₃ 8 (rts_at s) (rw z at e₂) e₃ (omega (arith, h.0.long)) in
          let whole : o₃ ≡ sets out 0 (packet_header (length s) p.sender ++ (t ++ octets32 p.rts)) =
          sets_twice (packet_header (length s) p.sender) (t ++ octets32 p.rts) out o₁ o₃ 0 8 e₁ last refl in
          rw (e, rewrite_octets p, size) (simp (le-ltb (length out) (length s) room) (ap (output_after (Ok (length s))) whole)))
