-- The octets of metrics and of a block, a turn at a time. Assumes nothing.
use mathlib.Core.Path.{◌≡◌, refl, ◌∙◌}
use mathlib.Core.List.{List, [], ◌++◌, map}
use Prim.Native.Nat.{ℕ, zero, suc, ◌+◌, ◌-◌, ◌*◌, ◌≤◌, ◌<◌}
use native.Mathlib.Omega.{arith}
use native.Mathlib.Nat.{not-suc-le-zero}
use lib.ListN.{length, length-map}
use lib.Seq.{sets}
use Rattle.octets.specs.Octets.{octets16}
use Rattle.octets.proofs.Sets.{sets_next, sets_twice}
use Rattle.packet.specs.Packet.{encode_metrics, filler, block_header, encode_block}
use Rattle.packet.proofs.Sizes.{length_metrics}
use Rattle.cutting.specs.Cutting.{following, numbers_from}
use Rattle.cutting.specs.Plan.{number_after}
use Rattle.cutting.proofs.Requests.{length_numbers, after_add}

module _ (m : ℕ → ℕ) where
  abbrev pub metrics_of : ℕ → ℕ → List ℕ
  metrics_of s k = map m (numbers_from s k)

  pub length_of_lem : (s k : ℕ) → length (metrics_of s k) ≡ k
  length_of_lem s k = length-map (numbers_from s k) m ∙ length_numbers s k

  metrics_more : (out : List ℕ) (i s k : ℕ) → 0 < k
      → sets (sets out i (octets16 (m s))) (i + 2) (encode_metrics (metrics_of (following s) (k - 1))) ≡ sets out i (encode_metrics (metrics_of s k))
  unfolding encode_metrics
  metrics_more out i s zero h = absurd (not-suc-le-zero h)
  metrics_more out i s (suc k) h =
      let e : suc k - 1 ≡ k = omega arith in
      rw e (sets_next (octets16 (m s)) (encode_metrics (metrics_of (following s) k)) out i (i + 2) refl)

  -- the metric of the i-th number written, and the others to be written
  pub metrics_turn : (out out' whole : List ℕ) (at begin k i v : ℕ) → i < k → v ≡ m (number_after begin i) → out' ≡ sets out (at + 2 * i) (octets16 v)
      → sets out (at + 2 * i) (encode_metrics (metrics_of (number_after begin i) (k - i))) ≡ whole
      → sets out' (at + 2 * (i + 1)) (encode_metrics (metrics_of (number_after begin (i + 1)) (k - (i + 1)))) ≡ whole
  metrics_turn out out' whole at begin k i v h e o w =
      let next : at + 2 * (i + 1) ≡ at + 2 * i + 2 = omega arith in
      let left : k - (i + 1) ≡ k - i - 1 = omega arith in
      rw (o, e, next, left, ← after_add begin i 1, metrics_more out (at + 2 * i) (number_after begin i) (k - i) (omega arith), w)

  pub metrics_none : (s k : ℕ) → k ≤ 0 → encode_metrics (metrics_of s k) ≡ []
  unfolding encode_metrics
  metrics_none s k h = let e : k ≡ 0 = omega arith in rw e

  -- the parts of a block, written back to back
  pub block_parts : (out o₁ o₂ o₃ : List ℕ) (at ssrc s k : ℕ) → o₁ ≡ sets out at (block_header ssrc s k) → o₂ ≡ sets o₁ (at + 8) (encode_metrics (metrics_of s k))
      → o₃ ≡ sets o₂ (at + 8 + 2 * k) (filler k) → o₃ ≡ sets out at (encode_block (record { ssrc = ssrc; begin = s; metrics = metrics_of s k }))
  unfolding encode_block
  block_parts out o₁ o₂ o₃ at ssrc s k e₁ e₂ e₃ =
      let l = length_of_lem s k in
      let a = sets_twice (encode_metrics (metrics_of s k)) (filler k) o₁ o₂ o₃ (at + 8) (at + 8 + 2 * k) e₂ e₃ (omega (arith, length_metrics (metrics_of s k))) in
      rw l (sets_twice (block_header ssrc s k) (encode_metrics (metrics_of s k) ++ filler k) out o₁ o₃ at (at + 8) e₁ a refl)
