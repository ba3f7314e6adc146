-- The blocks, parts and metrics that are asked for are those of the packet. Assumes nothing.
use Prim.Native.Nat.{ℕ, zero, suc, ◌+◌, ◌*◌, ◌/◌, ◌%◌, ◌<◌}
use mathlib.Core.Path.{◌≡◌, refl, ap, ◌∙◌}
use mathlib.Core.List.{List, [], ◌∷◌, ◌++◌, map}
use native.Mathlib.Omega.{arith}
use native.Mathlib.Nat.{suc-add}
use borrow.Author.Tests.{lt-leb, le-leb}
use lib.ListN.{length, get_or, drop}
use lib.Seq.{take_at}
use Rattle.lists.specs.All.{All}
use Rattle.lists.proofs.Cases.{never, split_le}
use Rattle.octets.specs.Octets.{be16, octets16, Octets}
use Rattle.packet.specs.Packet.{Packet, encode_metrics, report_counts}
use Rattle.packet.specs.Sizes.{packet_octets}
use Rattle.packet.proofs.Sizes.{length_metrics}
use Rattle.walk.specs.Walk.{Walked, walked, stopped, walk_of}
use Rattle.walk.specs.declared.ReportBlock.{ReportBlock}
use Rattle.walk.proofs.Walks.{walk_ind}
use Rattle.reports.specs.Reports.{reported_in, Within}
use Rattle.reports.proofs.Within.{within}
use Rattle.metric_part.specs.Part.{case_at}
use Rattle.reader.specs.Reading.{packet, metrics_at_of, block_in, packet_in, decoded, decode_packet}
use Rattle.reader.proofs.Answers.{length_metrics_at, walked_sound}
use Rattle.block_reader.specs.Blocks.{nth, read_block}
use Rattle.metric_reader.specs.Metrics.{metrics_part, reported_of, read_metric}
use Rattle.rewriter.proofs.Output.{octets_read}
use Rattle.packet_laws.specs.Asked.{laid, metrics_of, block_metric, packet_metric, case_of}
use Rattle.packet_laws.proofs.Back.{back_metrics}
use Rattle.packet_laws.proofs.ReadBack.{walk_back}
use Rattle.packet_laws.proofs.WrittenBack.{written_back}

module _ (s : List ℕ) where
  -- a packet that is read was walked: its blocks are those of the walk
  pub accepted : {P : Type 0} (p : Packet) → decode_packet s ≡ packet p
      → ((bs : List ReportBlock) → walk_of s ≡ walked bs → p ≡ packet_in s bs → P) → P
  unfolding decode_packet
  accepted {P} p e then = by_walk (walk_of s) refl e
    where
      by_walk : (w : Walked) → walk_of s ≡ w → decoded w s ≡ packet p → P
      by_walk (walked bs) f g = then bs f (cc)
      by_walk (stopped x) f g = never (cc)

  pub accepted_octets : (p : Packet) → decode_packet s ≡ packet p → packet_octets (report_counts p.blocks) ≡ length s
  accepted_octets p e = accepted p e (λ bs f z. rw z (octets_read s bs f))

  -- ---- metrics

  metric_at : (n at j : ℕ) → j < n → get_or (metrics_at_of s at n) j 0 ≡ be16 s (at + 2 * j)
  unfolding metrics_at_of
  metric_at zero at j l = absurd (omega arith)
  metric_at (suc n) at zero l = ap (be16 s) (omega arith)
  metric_at (suc n) at (suc j) l = metric_at n (at + 2) j (omega arith) ∙ ap (be16 s) (omega arith)

  metric_in : (b : ReportBlock) (j : ℕ) → reported_in b s j ≡ block_metric (block_in s b) j
  metric_in b j =
      let n = b.num_reports in
      rw (length_metrics_at s n b.metrics_at)
      (split_le n j
      (λ h. simp (le-leb n j h))
      (λ h. simp (lt-leb n j h) (rw (metric_at n b.metrics_at j h))))

  metric_nth : (bs : List ReportBlock) (k j : ℕ) → reported_of (nth bs k) s j ≡ packet_metric (map (block_in s) bs) k j
  metric_nth [] k j = refl
  metric_nth (b ∷ bs) zero j = metric_in b j
  metric_nth (b ∷ bs) (suc k) j = metric_nth bs k j

  -- metric j of block k is that of the packet
  pub metric_asked_lem : (p : Packet) → decode_packet s ≡ packet p → (k j : ℕ) → read_metric s k j ≡ packet_metric p.blocks k j
  metric_asked_lem p e k j = accepted p e (λ bs f z. rw (f, z) (metric_nth bs k j))

  module _ (octets : Octets s) where
    -- block k has the SSRC, begin and count of the packet's, and its metrics stand behind the blocks before it
    pub block_asked : (p : Packet) → decode_packet s ≡ packet p → (k : ℕ) → read_block s k ≡ nth (laid 8 p.blocks) k
    block_asked p e k =
        let w = written_back s octets p e in
        let z : walk_of s ≡ walked (laid 8 p.blocks) = ap walk_of w.octets ∙ walk_back p w.fit in
        rw z

    part_nth : (bs : List ReportBlock) → All (Within s) bs → (k : ℕ)
        → metrics_part (nth bs k) s ≡ encode_metrics (metrics_of (map (block_in s) bs) k)
    unfolding encode_metrics
    part_nth [] a k = refl
    part_nth (b ∷ bs) a zero =
        let n = b.num_reports in
        let m = metrics_at_of s b.metrics_at n in
        simp (le-leb (b.metrics_at + 2 * n) (length s) a.0.room)
        (rw (back_metrics s octets n b.metrics_at a.0.room)
        (take_at (encode_metrics m) (drop (b.metrics_at + 2 * n) s) (2 * n)
        (length_metrics m ∙ ap (λ (x : ℕ). 2 * x) (length_metrics_at s n b.metrics_at))))
    part_nth (b ∷ bs) a (suc k) = part_nth bs a.1 k

    -- the part that is handed back holds the metrics of the block, 2 octets each, without the filler
    pub part_asked : (p : Packet) → decode_packet s ≡ packet p → (k : ℕ) → metrics_part (read_block s k) s ≡ encode_metrics (metrics_of p.blocks k)
    part_asked p e k =
        accepted p e (λ bs f z.
        rw (f, z)
        (part_nth bs
        (walk_ind s (λ at bs. All (Within s) bs) (λ at h. tt) (λ at b next bs f r. (within s at b next f, r)) 8 bs (walked_sound s bs f).1)
        k))

-- ---- a part by itself

be16_past : (a b : ℕ) (t : List ℕ) (i : ℕ) → be16 (a ∷ b ∷ t) (suc (suc i)) ≡ be16 t i
unfolding be16
be16_past a b t i = rw (suc-add, suc-add)

be16_first : (m : ℕ) (t : List ℕ) → be16 (octets16 m ++ t) 0 ≡ m
unfolding be16
be16_first m t = omega arith

metric_encoded : (ms : List ℕ) (j : ℕ) → j < length ms → be16 (encode_metrics ms) (2 * j) ≡ get_or ms j 0
unfolding encode_metrics
metric_encoded [] j l = absurd (omega arith)
metric_encoded (m ∷ ms) zero l = be16_first m (encode_metrics ms)
metric_encoded (m ∷ ms) (suc j) l =
    let z : 2 * suc j ≡ suc (suc (2 * j)) = omega arith in
    rw z (be16_past (m / 256) (m % 256) (encode_metrics ms) (2 * j) ∙ metric_encoded ms j (omega arith))

-- metric j of a part that was handed back is metric j of its block
pub metric_of_part : (ms : List ℕ) (j : ℕ) → case_at (encode_metrics ms) j ≡ case_of ms j
metric_of_part ms j =
    let z : length (encode_metrics ms) / 2 ≡ length ms = omega (arith, length_metrics ms) in
    rw z
    (split_le (length ms) j
    (λ h. simp (le-leb (length ms) j h))
    (λ h. simp (lt-leb (length ms) j h) (rw (metric_encoded ms j h))))
