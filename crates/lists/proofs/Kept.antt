-- Laws of `kept`. Assumes nothing.
use Prim.Native.Nat.{suc}
use mathlib.Core.Bool.{Bool, true, false, cond}
use mathlib.Core.Path.{◌≡◌, refl, sym, ap, ◌∙◌}
use mathlib.Core.List.{List, [], ◌∷◌, ◌++◌, map, head-eq_of_cons-eq, tail-eq_of_cons-eq}
use native.Mathlib.Omega.{arith}
use lib.ListN.{length}
use Rattle.lists.specs.All.{All}
use Rattle.lists.specs.Kept.{kept}

-- what is kept and then mapped is what is mapped and then kept, if the two tests agree
pub kept_map : {A B : Type 0} (f : A → B) (test : A → Bool) (test' : B → Bool) (xs : List A) → All (λ x. test' (f x) ≡ test x) xs
    → map f (kept test xs) ≡ kept test' (map f xs)
unfolding kept
kept_map f test test' [] h = refl
kept_map {A} {B} f test test' (x ∷ xs) h = rw h.0 (by_test (test x) (kept_map f test test' xs h.1))
  where
    by_test : (b : Bool) → map f (kept test xs) ≡ kept test' (map f xs)
        → map f (cond b (x ∷ kept test xs) (kept test xs)) ≡ cond b (f x ∷ kept test' (map f xs)) (kept test' (map f xs))
    by_test true e = ap (λ (ys : List B). f x ∷ ys) e
    by_test false e = e

module _ {A : Type 0} (test : A → Bool) where
  pub kept_yes : (x : A) (xs : List A) → test x ≡ true → kept test (x ∷ xs) ≡ x ∷ kept test xs
  unfolding kept
  kept_yes x xs e = rw e

  pub kept_no : (x : A) (xs : List A) → test x ≡ false → kept test (x ∷ xs) ≡ kept test xs
  unfolding kept
  kept_no x xs e = rw e

  pub kept_append : (xs ys : List A) → kept test (xs ++ ys) ≡ kept test xs ++ kept test ys
  unfolding kept
  kept_append [] ys = refl
  kept_append (x ∷ xs) ys = by_test (test x) (kept_append xs ys)
    where
      by_test : (b : Bool) → kept test (xs ++ ys) ≡ kept test xs ++ kept test ys
          → cond b (x ∷ kept test (xs ++ ys)) (kept test (xs ++ ys)) ≡ cond b (x ∷ kept test xs) (kept test xs) ++ kept test ys
      by_test true e = ap (λ (zs : List A). x ∷ zs) e
      by_test false e = e

  -- those that pass the test stand behind those that do not
  pub kept_behind : (xs ys : List A) → All (λ x. test x ≡ false) xs → All (λ y. test y ≡ true) ys → kept test (xs ++ ys) ≡ ys
  unfolding kept
  kept_behind [] [] h g = refl
  kept_behind [] (y ∷ ys) h g = kept_yes y ys g.0 ∙ ap (λ (zs : List A). y ∷ zs) (kept_behind [] ys tt g.1)
  kept_behind (x ∷ xs) ys h g = kept_no x (xs ++ ys) h.0 ∙ kept_behind xs ys h.1 g

  -- the element that is kept behind so many others stands at one place
  pub kept_once : (xs ys : List A) (x y : A) (us vs : List A) → xs ++ x ∷ us ≡ ys ++ y ∷ vs → test x ≡ true → test y ≡ true
      → length (kept test xs) ≡ length (kept test ys) → (x ≡ y) × (xs ≡ ys)
  unfolding kept
  kept_once [] [] x y us vs e f g l = (head-eq_of_cons-eq e, refl)
  kept_once [] (z ∷ ys) x y us vs e f g l =
      let t : test z ≡ true = ap test (sym (head-eq_of_cons-eq e)) ∙ f in
      let m : 0 ≡ suc (length (kept test ys)) = l ∙ ap length (kept_yes z ys t) in
      absurd (omega arith)
  kept_once (z ∷ xs) [] x y us vs e f g l =
      let t : test z ≡ true = ap test (head-eq_of_cons-eq e) ∙ g in
      let m : suc (length (kept test xs)) ≡ 0 = sym (ap length (kept_yes z xs t)) ∙ l in
      absurd (omega arith)
  kept_once (w ∷ xs) (z ∷ ys) x y us vs e f g l =
      let same : w ≡ z = head-eq_of_cons-eq e in
      let r = kept_once xs ys x y us vs (tail-eq_of_cons-eq e) f g (fewer (test w) refl (rw (← same) at l)) in
      (r.0, cc r.1)
    where
      fewer : (b : Bool) → test w ≡ b → length (kept test (w ∷ xs)) ≡ length (kept test (w ∷ ys)) → length (kept test xs) ≡ length (kept test ys)
      fewer true t h =
          let m : suc (length (kept test xs)) ≡ suc (length (kept test ys)) = sym (ap length (kept_yes w xs t)) ∙ h ∙ ap length (kept_yes w ys t) in
          omega arith
      fewer false t h = sym (ap length (kept_no w xs t)) ∙ h ∙ ap length (kept_no w ys t)
