-- The laws of `first_from` that a loop over i below n goes by. Assumes nothing.
use Prim.Native.Nat.{ℕ, zero, suc, ◌+◌, ◌-◌, ◌<◌, ◌≤◌}
use mathlib.Core.Path.{◌≡◌, refl, sym, ap, ◌∙◌}
use native.Mathlib.Decide.{ℕ_discrete}
use mathlib.Core.Bool.{Bool, true, false, cond, false≢true}
use native.Mathlib.Omega.{arith}
use Rattle.lists.specs.First.{first_from}
use Rattle.std.specs.Prelude.{Option, Some, None}
use Rattle.lists.proofs.Cases.{never}

module _ (test : ℕ → Bool) (i n : ℕ) where
  pub first_hit : i < n → test i ≡ true → first_from test i (n - i) ≡ Some i
  unfolding first_from
  first_hit l e =
      let h : n - i ≡ suc (n - (i + 1)) = omega arith in
      rw (h, e)

  pub first_miss : i < n → test i ≡ false → first_from test i (n - i) ≡ first_from test (i + 1) (n - (i + 1))
  unfolding first_from
  first_miss l e =
      let h : n - i ≡ suc (n - (i + 1)) = omega arith in
      rw (h, e)

  pub first_none : n ≤ i → first_from test i (n - i) ≡ None
  unfolding first_from
  first_none l =
      let h : n - i ≡ 0 = omega arith in
      rw h

-- what is found lies in the range searched
pub first_below : (test : ℕ → Bool) (n i p : ℕ) → first_from test i n ≡ Some p → p < i + n
unfolding first_from
first_below test zero i p e = never (cc)
first_below test (suc n) i p e = picked (test i) e (λ h. first_below test n (i + 1) p h)
  where
    picked : (b : Bool) → cond b (Some i) (first_from test (i + 1) n) ≡ Some p → (first_from test (i + 1) n ≡ Some p → p < i + 1 + n) → p < i + suc n
    picked true h more = let z : i ≡ p = cc in omega arith
    picked false h more = let z : p < i + 1 + n = more h in omega arith

-- the test holds where something is found
pub first_true : (test : ℕ → Bool) (n i p : ℕ) → first_from test i n ≡ Some p → test p ≡ true
unfolding first_from
first_true test zero i p e = never (cc)
first_true test (suc n) i p e = picked (test i) refl e (λ h. first_true test n (i + 1) p h)
  where
    picked : (b : Bool) → test i ≡ b → cond b (Some i) (first_from test (i + 1) n) ≡ Some p → (first_from test (i + 1) n ≡ Some p → test p ≡ true) → test p ≡ true
    picked true t h more = let z : i ≡ p = cc in rw (← z) t
    picked false t h more = more h

-- it holds nowhere where nothing is found
pub first_false : (test : ℕ → Bool) (n i k : ℕ) → first_from test i n ≡ None → i ≤ k → k < i + n → test k ≡ false
unfolding first_from
first_false test zero i k e a b = absurd (impossible i k a b)
  where
    impossible : (i k : ℕ) → i ≤ k → k < i + 0 → ⊥
    impossible i k a b = omega arith
first_false test (suc n) i k e a b = picked (test i) refl e (λ h g. first_false test n (i + 1) k h g (omega arith))
  where
    picked : (b : Bool) → test i ≡ b → cond b (Some i) (first_from test (i + 1) n) ≡ None
        → (first_from test (i + 1) n ≡ None → i + 1 ≤ k → test k ≡ false) → test k ≡ false
    picked true t h more = never (cc)
    picked false t h more = elim (ℕ_discrete i k) [ yes q ↦ rw (← q) t | no q ↦ more h (omega arith) ]

-- where the test holds for the first time, it is found
pub first_at : (test : ℕ → Bool) (n i p : ℕ) → i ≤ p → p < i + n → test p ≡ true → ((k : ℕ) → k < p → i ≤ k → test k ≡ false) → first_from test i n ≡ Some p
unfolding first_from
first_at test zero i p a b t h = absurd (impossible i p a b)
  where
    impossible : (i k : ℕ) → i ≤ k → k < i + 0 → ⊥
    impossible i k a b = omega arith
first_at test (suc n) i p a b t h =
    elim (ℕ_discrete i p) [
      | yes q ↦ let e : test i ≡ true = ap test q ∙ t in rw e (ap Some q)
      | no q ↦ let e : test i ≡ false = h i (omega arith) (omega arith) in
          rw e (first_at test n (i + 1) p (omega arith) (omega arith) t (λ k l g. h k l (omega arith)))
    ]

-- it goes by the test alone
pub first_cong : (test test' : ℕ → Bool) (n i : ℕ) → ((k : ℕ) → test k ≡ test' k) → first_from test i n ≡ first_from test' i n
unfolding first_from
first_cong test test' zero i h = refl
first_cong test test' (suc n) i h = rw (h i, first_cong test test' n (i + 1) h)

-- before what is found it holds nowhere
pub first_before : (test : ℕ → Bool) (n i p k : ℕ) → first_from test i n ≡ Some p → i ≤ k → k < p → test k ≡ false
unfolding first_from
first_before test zero i p k e a b = never (cc)
first_before test (suc n) i p k e a b = picked (test i) refl e (λ h g. first_before test n (i + 1) p k h g b)
  where
    picked : (b : Bool) → test i ≡ b → cond b (Some i) (first_from test (i + 1) n) ≡ Some p
        → (first_from test (i + 1) n ≡ Some p → i + 1 ≤ k → test k ≡ false) → test k ≡ false
    picked true t h more = let z : i ≡ p = cc in absurd (past z)
      where
        past : i ≡ p → ⊥
        past z = omega arith
    picked false t h more = elim (ℕ_discrete i k) [ yes q ↦ rw (← q) t | no q ↦ more h (omega arith) ]

-- where it holds nowhere, nothing is found
pub first_nothing : (test : ℕ → Bool) (n : ℕ) → ((k : ℕ) → k < n → test k ≡ false) → first_from test 0 n ≡ None
first_nothing test n h = by (first_from test 0 n) refl
  where
    by : (f : Option ℕ) → first_from test 0 n ≡ f → f ≡ None
    by (Some k) e =
        let l = first_below test n 0 k e in
        absurd (false≢true (sym (h k (omega arith)) ∙ first_true test n 0 k e))
    by None e = refl
