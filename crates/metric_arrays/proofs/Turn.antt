-- A turn over the metrics of a part. Assumes nothing.
use Prim.Native.Nat.{ℕ, zero, suc, ◌+◌, ◌*◌}
use mathlib.Core.Path.{◌≡◌, refl, ap}
use mathlib.Core.List.{List, [], ◌∷◌, ◌++◌, map}
use native.Mathlib.Omega.{arith}
use native.Mathlib.Nat.{add-zero}
use lib.ListN.{length, set}
use lib.Seq.{sets}
use Rattle.std.proofs.lemmas.List.{length-map, map-append}
use Rattle.octets.specs.Octets.{be16}
use Rattle.octets.proofs.Sets.{sets_next}
use Rattle.reader.specs.Reading.{metrics_at_of}
use Rattle.reader.proofs.Answers.{length_metrics_at}
use Rattle.metric_arrays.specs.Arrays.{Arrays, case_field, mark_field, offset_field, arrays, decoded_into}

module _ (s : List ℕ) where
  one_more : (n at : ℕ) → metrics_at_of s at (n + 1) ≡ metrics_at_of s at n ++ be16 s (at + 2 * n) ∷ []
  unfolding metrics_at_of
  one_more zero at = rw add-zero
  one_more (suc n) at =
      let e : at + 2 + 2 * n ≡ at + 2 * suc n = omega arith in
      let l : suc n + 1 ≡ suc (n + 1) = omega arith in
      rw (l, ← e) (ap (λ (ms : List ℕ). be16 s at ∷ ms) (one_more n (at + 2)))

  field_next : (field : ℕ → ℕ) (out : List ℕ) (n : ℕ)
      → set (sets out 0 (map field (metrics_at_of s 0 n))) n (field (be16 s (2 * n))) ≡ sets out 0 (map field (metrics_at_of s 0 (n + 1)))
  field_next field out n =
      let l : 0 + length (map field (metrics_at_of s 0 n)) ≡ n = omega (arith, length-map (metrics_at_of s 0 n) field, length_metrics_at s n 0) in
      let e : 0 + 2 * n ≡ 2 * n = omega arith in
      rw (one_more n 0, e, map-append field (metrics_at_of s 0 n) (be16 s (2 * n) ∷ []))
      (sets_next (map field (metrics_at_of s 0 n)) (field (be16 s (2 * n)) ∷ []) out 0 n l)

  pub decoded_none : (a : Arrays) → a ≡ decoded_into (metrics_at_of s 0 0) a
  unfolding metrics_at_of
  decoded_none a = refl

  -- what the three writes of a turn make of the arrays
  pub decoded_next : (a b : Arrays) (n m case mark offset : ℕ) → b ≡ decoded_into (metrics_at_of s 0 n) a
      → m ≡ be16 s (2 * n) → case ≡ case_field m → mark ≡ mark_field m → offset ≡ offset_field m
      → arrays (set b.cases n case) (set b.marks n mark) (set b.offsets n offset) ≡ decoded_into (metrics_at_of s 0 (n + 1)) a
  decoded_next a b n m case mark offset h e c k o =
      rw (c, k, o, e, h, field_next case_field a.cases n, field_next mark_field a.marks n, field_next offset_field a.offsets n)
