-- What a turn over the metrics leaves in the output. Assumes nothing.
use Prim.Native.Nat.{ℕ, suc, ◌+◌, ◌-◌, ◌*◌, ◌/◌, ◌%◌, ◌<◌, ◌≤◌}
use mathlib.Core.Path.{◌≡◌, refl, sym, ap, ◌∙◌}
use mathlib.Core.List.{List, map}
use native.Mathlib.Omega.{arith}
use native.Mathlib.Numerals.{add-one}
use borrow.Author.Tests.{lt-ltb, le-ltb}
use lib.ListN.{get_or, set}
use lib.Seq.{sets}
use Rattle.lists.proofs.Cases.{split_le}
use Rattle.octets.specs.Octets.{be16, octets16}
use Rattle.octets.proofs.Sets.{sets_next}
use Rattle.low_first.specs.LowFirst.{low_first}
use Rattle.low_first.proofs.Parts.{digits}
use Rattle.packet.specs.Packet.{encode_metrics}
use Rattle.reader.specs.Reading.{metrics_at_of}
use Rattle.metric_rewriter.specs.Metrics.{rewrite_metric}
use Rattle.metric_rewriter.specs.Steps.{rewrite_low_first}

-- a metric of the octets a and b, rewritten with a low, has the octets of the rewritten metric, the other way round
kept_octets : (a b : ℕ) → a < 256 → b < 256
    → (rewrite_low_first (256 * b + a) % 256 ≡ rewrite_metric (256 * a + b) / 256) × (rewrite_low_first (256 * b + a) / 256 ≡ rewrite_metric (256 * a + b) % 256)
kept_octets a b h l =
    let x = digits a b l in
    let y = digits b a h in
    split_le 128 a
    (λ g. rw y.1 (simp (le-ltb a 128 g, le-ltb (256 * a + b) 32768 (omega arith)) (y.1 ∙ sym x.0, y.0 ∙ sym x.1)))
    (λ g. rw y.1 (simp (lt-ltb a 128 g, lt-ltb (256 * a + b) 32768 (omega arith)) (refl, refl)))

module _ (s : List ℕ) where
  -- the octets of n rewritten metrics, starting at i
  abbrev pub rewritten_octets : ℕ → ℕ → List ℕ
  rewritten_octets i n = encode_metrics (map rewrite_metric (metrics_at_of s i n))

  -- a turn over the metrics of a block
  pub metric_turn : (out : List ℕ) (at n j : ℕ) → j < n
      → sets (sets out (at + 2 * j) (octets16 (rewrite_metric (be16 s (at + 2 * j))))) (at + 2 * (j + 1)) (rewritten_octets (at + 2 * (j + 1)) (n - (j + 1)))
      ≡ sets out (at + 2 * j) (rewritten_octets (at + 2 * j) (n - j))
  unfolding encode_metrics metrics_at_of
  metric_turn out at n j h =
      let z : n - j ≡ suc (n - (j + 1)) = omega arith in
      let y : at + 2 * (j + 1) ≡ at + 2 * j + 2 = omega arith in
      rw (z, y)
      (sets_next (octets16 (rewrite_metric (be16 s (at + 2 * j)))) (rewritten_octets (at + 2 * j + 2) (n - (j + 1))) out (at + 2 * j) (at + 2 * j + 2) refl)

  -- the two octets that a turn writes are those of the rewritten metric
  pub metric_written : (out : List ℕ) (i k : ℕ) → get_or s i 0 < 256 → get_or s (i + 1) 0 < 256 → k ≡ rewrite_low_first (low_first s i)
      → set (set out i (k % 256)) (i + 1) (k / 256) ≡ sets out i (octets16 (rewrite_metric (be16 s i)))
  unfolding be16
  metric_written out i k a b e =
      let x = kept_octets (get_or s i 0) (get_or s (i + 1) 0) a b in
      let m = rewrite_metric (be16 s i) in
      rw (e, x.0, x.1) (ap (λ (q : ℕ). set (set out i (m / 256)) q (m % 256)) (add-one i))

  pub metrics_done : (out : List ℕ) (n j i : ℕ) → n ≤ j → out ≡ sets out i (rewritten_octets i (n - j))
  unfolding encode_metrics metrics_at_of
  metrics_done out n j i h = let z : n - j ≡ 0 = omega arith in rw z
