-- A cutting under the packet rules splits what is requested. Assumes nothing.
use Rattle.std.proofs.Common.{◌≡◌, ℕ, zero, suc, ◌+◌, ◌-◌, ◌<◌, ◌≤◌, ◌≢◌, ◌⊎◌, List, [], ◌∷◌, ◌++◌, length, sym, refl, ap, ◌∙◌, subst, inl, inr, ⊎_elim, suc-le-suc, zero-le, arith, eq-eqb, ne_eqb}
use mathlib.Core.List.{cons-ne-nil, head-eq_of_cons-eq, tail-eq_of_cons-eq}
use native.Mathlib.Nat.{sub-zero, suc-sub-suc}
use Rattle.lists.specs.All.{All}
use Rattle.lists.proofs.Cases.{split_le}
use Rattle.lists.proofs.All.{all_map, all_zip}
use Rattle.cutting.specs.declared.Request.{Request}
use Rattle.cutting.specs.Cutting.{CutBlock, Cutting, all_blocks, blocks_of, following, numbers_from, numbers_reported, whole_blocks, RangeRules, InOrder, Cuts}
use Rattle.cutting.specs.Plan.{first_numbers, later_numbers, number_after}
use Rattle.cutting.proofs.Split.{Split, done, whole, part}

-- ---- the blocks of a request

pub of_same : (i : ℕ) (b : CutBlock) (bs : List CutBlock) → b.request ≡ i → blocks_of i (b ∷ bs) ≡ b ∷ blocks_of i bs
of_same i b bs e = rw (eq-eqb b.request i e)

pub of_other : (i : ℕ) (b : CutBlock) (bs : List CutBlock) → b.request ≢ i → blocks_of i (b ∷ bs) ≡ blocks_of i bs
of_other i b bs e = rw (ne_eqb b.request i e)

pub of_none : (i : ℕ) (bs : List CutBlock) → All (λ b. i < b.request) bs → blocks_of i bs ≡ []
of_none i [] h = refl
of_none i (b ∷ bs) h = of_other i b bs (omega (arith, h.0)) ∙ of_none i bs h.1

-- where no block is of a request before i, and none is of i, all are of later ones
later : (i : ℕ) (bs : List CutBlock) → All (λ b. i ≤ b.request) bs → blocks_of i bs ≡ [] → All (λ b. i < b.request) bs
later i [] h e = tt
later i (b ∷ bs) h e =
    split_le b.request i
    (λ k. absurd (cons-ne-nil b (blocks_of i bs) (sym (of_same i b bs (omega (arith, h.0))) ∙ e)))
    (λ k. (k, later i bs h.1 (sym (of_other i b bs (omega arith)) ∙ e)))

-- ---- runs

-- a run that begins with a run of j: j is no more, and what follows is the run after it
run_rest : (s j k : ℕ) (xs : List ℕ) → numbers_from s j ++ xs ≡ numbers_from s k → (j ≤ k) × (xs ≡ numbers_from (number_after s j) (k - j))
run_rest s zero k xs e = (zero-le, rw sub-zero e)
run_rest s (suc j) zero xs e = absurd (cons-ne-nil _ _ e)
run_rest s (suc j) (suc k) xs e =
    let r : (j ≤ k) × (xs ≡ numbers_from (number_after (following s) j) (k - j)) = run_rest (following s) j k xs (tail-eq_of_cons-eq e) in
    (suc-le-suc r.0, rw suc-sub-suc r.1)

run_cut : (s t j k : ℕ) (xs : List ℕ) → 0 < j → numbers_from t j ++ xs ≡ numbers_from s k → (t ≡ s) × (j ≤ k) × (xs ≡ numbers_from (number_after s j) (k - j))
run_cut s t zero k xs p e = absurd (omega arith)
run_cut s t (suc j) zero xs p e = absurd (cons-ne-nil _ _ e)
run_cut s t (suc j) (suc k) xs p e =
    let q : t ≡ s = head-eq_of_cons-eq e in
    let r : (suc j ≤ suc k) × (xs ≡ numbers_from (number_after s (suc j)) (suc k - suc j)) =
    run_rest s (suc j) (suc k) xs (subst (λ (z : ℕ). numbers_from z (suc j) ++ xs ≡ numbers_from s (suc k)) q e) in
    (q, r.0, r.1)

no_numbers : (bs : List CutBlock) → All (λ b. 0 < b.count) bs → numbers_reported bs ≡ [] → bs ≡ []
no_numbers [] h e = refl
no_numbers (b ∷ bs) h e = absurd (some b.count h.0 e)
  where
    some : (k : ℕ) → 0 < k → numbers_from b.begin k ++ numbers_reported bs ≡ [] → ⊥
    some zero p q = omega arith
    some (suc k) p q = cons-ne-nil _ _ q

-- ---- the answers to a request

no_answer : (a : CutBlock) → RangeRules a [] → ⊥
no_answer a h = go a.count refl
  where
    go : (k : ℕ) → a.count ≡ k → ⊥
    go zero e = cons-ne-nil _ _ (sym (h.empty e))
    go (suc k) e = cons-ne-nil _ _ (sym (subst (λ (z : ℕ). [] ≡ numbers_from a.begin z) e h.range))

block_path : {a b : CutBlock} → a.request ≡ b.request → a.begin ≡ b.begin → a.count ≡ b.count → a ≡ b
block_path p q r = λ i. record { request = p i; begin = q i; count = r i }

abbrev Step : CutBlock → CutBlock → List CutBlock → Type 0
Step a b bs =
    ((b ≡ a) × (bs ≡ []))
    ⊎ ((b ≡ first_numbers a b.count) × (0 < b.count) × (b.count < a.count) × RangeRules (later_numbers a b.count) bs)

answers_step : (a b : CutBlock) (bs : List CutBlock) → b.request ≡ a.request → RangeRules a (b ∷ bs) → Step a b bs
answers_step a b bs e h =
    split_le a.count 0
    (λ z. let p : b ∷ bs ≡ a ∷ [] = h.empty (omega arith) in inl (head-eq_of_cons-eq p, tail-eq_of_cons-eq p))
    (λ z.
    let f : All (λ d. 0 < d.count) (b ∷ bs) = h.filled z in
    let r : (b.begin ≡ a.begin) × (b.count ≤ a.count) × (numbers_reported bs ≡ numbers_from (number_after a.begin b.count) (a.count - b.count)) =
    run_cut a.begin b.begin b.count a.count (numbers_reported bs) f.0 h.range in
    split_le a.count b.count
    (λ l.
    let q : a.count - b.count ≡ 0 = omega arith in
    inl (block_path e r.0 (omega arith), no_numbers bs f.1 (r.2 ∙ ap (numbers_from (number_after a.begin b.count)) q)))
    (λ l. inr (block_path e r.0 refl, f.0, l, record { range = r.2; empty = λ q. absurd (omega arith); filled = λ q. f.1 })))

-- what there is to report, its requests counted from n
abbrev pub Counted : ℕ → List CutBlock → Type 0
Counted n [] = Unit {0}
Counted n (a ∷ w) = (a.request ≡ n) × Counted (suc n) w

pub counted_whole : (n : ℕ) (rs : List Request) → Counted n (whole_blocks n rs)
counted_whole n [] = tt
counted_whole n (r ∷ rs) = (refl, counted_whole (suc n) rs)

pub length_whole : (n : ℕ) (rs : List Request) → length (whole_blocks n rs) ≡ length rs
length_whole n [] = refl
length_whole n (r ∷ rs) = ap suc (length_whole (suc n) rs)

-- the answers to later requests are in the other blocks
answers_tail : (n : ℕ) (w : List CutBlock) (b : CutBlock) (bs : List CutBlock) → Counted n w → b.request < n
    → All (λ a. RangeRules a (blocks_of a.request (b ∷ bs))) w → All (λ a. RangeRules a (blocks_of a.request bs)) w
answers_tail n [] b bs c l h = tt
answers_tail n (a ∷ w) b bs c l h =
    (rw (of_other a.request b bs (omega (arith, c.0))) at h.0, answers_tail (suc n) w b bs c.1 (omega arith) h.1)

abbrev pub Within : ℕ → ℕ → CutBlock → Type 0
Within n m b = (n ≤ b.request) × (b.request < n + m)

later_within : (n m : ℕ) (bs : List CutBlock) → All (Within n (suc m)) bs → blocks_of n bs ≡ [] → All (Within (suc n) m) bs
later_within n m bs k e = all_zip bs (λ d p q. (q, omega (arith, p.1))) k (later n bs (all_map bs (λ d p. p.0) k) e)

split : (n : ℕ) (w bs : List CutBlock) → Counted n w → All (Within n (length w)) bs → InOrder bs
    → All (λ a. RangeRules a (blocks_of a.request bs)) w → Split w bs
split n [] [] c k o a = done
split n [] (b ∷ bs) c k o a = absurd (omega (arith, k.0.0, k.0.1))
split n (x ∷ w) [] c k o a = absurd (no_answer x a.0)
split n (x ∷ w) (b ∷ bs) c k o a =
    split_le b.request n
    (λ l.
    let e : b.request ≡ x.request = omega (arith, c.0, k.0.0) in
    let t : All (λ a. RangeRules a (blocks_of a.request bs)) w = answers_tail (suc n) w b bs c.1 (omega arith) a.1 in
    ⊎_elim
    (λ s. whole s.0 (split (suc n) w bs c.1 (later_within n (length w) bs k.1 (ap (λ (z : ℕ). blocks_of z bs) (sym c.0) ∙ s.1)) o.1 t))
    (λ s. part s.0 s.1 s.2 (split n (later_numbers x b.count ∷ w) bs c k.1 o.1 (s.3, t)))
    (answers_step x b (blocks_of x.request bs) e (rw (of_same x.request b bs e) at a.0)))
    (λ l.
    let z : blocks_of x.request (b ∷ bs) ≡ [] = ap (λ (z : ℕ). blocks_of z (b ∷ bs)) c.0 ∙ of_none n (b ∷ bs) (l, all_map bs (λ d p. omega arith) o.0) in
    absurd (no_answer x (subst (RangeRules x) z a.0)))

pub split_of_rules : {limit : ℕ} {rs : List Request} {c : Cutting} → Cuts limit rs c → Split (whole_blocks 0 rs) (all_blocks c)
split_of_rules {rs = rs} {c = c} h =
    split 0 (whole_blocks 0 rs) (all_blocks c) (counted_whole 0 rs)
    (all_map (all_blocks c) (λ b p. (zero-le, omega (arith, length_whole 0 rs))) h.known) h.ordered h.ranges
