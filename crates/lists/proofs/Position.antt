-- What a search of a slice by `position` finds, as `first_from`. Assumes nothing.
use Rattle.std.proofs.Common.{ℕ, ◌<◌, ◌≡◌, refl, sym, ◌∙◌, Bool, true, false, List, length, get_or, Option, Some, None, arith}
use Rattle.std.specs.Option.{MatchOption}
use Rattle.std.specs.List.{AllWithin, HoldsAt}
use Rattle.lists.specs.First.{first_from}
use Rattle.lists.proofs.First.{first_at, first_nothing, first_false, first_below, first_true, first_before}

module _ (test : ℕ → Bool) (all : List ℕ) where
  pub first_is : (r : Option ℕ)
      → MatchOption r (AllWithin (λ x. test x ≡ false) all 0 (length all))
      (λ i. (i < length all) × HoldsAt (λ x. test x ≡ true) all i × AllWithin (λ x. test x ≡ false) all 0 i)
      → r ≡ first_from (λ k. test (get_or all k 0)) 0 (length all)
  first_is None h = sym (first_nothing (λ k. test (get_or all k 0)) (length all) (λ k l. h k 0 (omega arith) l))
  first_is (Some i) h =
      sym (first_at (λ k. test (get_or all k 0)) (length all) 0 i (omega arith) (omega (arith, h.0)) (h.1 0) (λ k l z. h.2 k 0 z l))

-- two tests that agree below n find the same below n
pub first_same : (f g : ℕ → Bool) (n : ℕ) → ((k : ℕ) → k < n → g k ≡ f k) → first_from f 0 n ≡ first_from g 0 n
first_same f g n same = sym (go (first_from f 0 n) refl)
  where
    go : (r : Option ℕ) → first_from f 0 n ≡ r → first_from g 0 n ≡ r
    go None e = first_nothing g n (λ k l. same k l ∙ first_false f n 0 k e (omega arith) (omega arith))
    go (Some i) e =
        let b = first_below f n 0 i e in
        first_at g n 0 i (omega arith) (omega (arith, b)) (same i (omega (arith, b)) ∙ first_true f n 0 i e)
        (λ k l z. same k (omega (arith, b, l)) ∙ first_before f n 0 i k e z l)
