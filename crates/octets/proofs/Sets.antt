-- Laws of `sets`: writes back to back, writes that do not meet, and a write into a part that was lent. Assumes nothing.
use mathlib.Core.Path.{◌≡◌, refl, sym, ap, ◌∙◌}
use mathlib.Core.List.{List, [], ◌∷◌, ◌++◌, append-nil}
use Prim.Native.Nat.{ℕ, suc, ◌+◌, ◌-◌, ◌≤◌, ◌<◌}
use native.Mathlib.Omega.{arith}
use native.Mathlib.Nat.{add-zero, add-suc, suc-add}
use lib.ListN.{length, take, drop, set, take-append-drop, length-drop, drop_of_length-le}
use lib.Seq.{sets, set_comm, take-set-le, drop-set-add, take_all}
use borrow.Rule.Slice.PartMut.{mid_of, post_of, put_mid}

module _ {A : Type 0} where
  pub sets_append : (vs ws l : List A) (i : ℕ) → sets l i (vs ++ ws) ≡ sets (sets l i vs) (i + length vs) ws
  sets_append [] ws l i = rw add-zero
  sets_append (a ∷ vs) ws l i = rw (sets_append vs ws (set l i a) (suc i), add-suc, suc-add)

  -- the same, where the place of the second write is known by an equation
  pub sets_next : (vs ws l : List A) (i j : ℕ) → i + length vs ≡ j → sets (sets l i vs) j ws ≡ sets l i (vs ++ ws)
  sets_next vs ws l i j e = rw (← e, sets_append vs ws l i)

  -- the content after two writes back to back
  pub sets_twice : (vs ws l mid last : List A) (i j : ℕ) → mid ≡ sets l i vs → last ≡ sets mid j ws → i + length vs ≡ j
      → last ≡ sets l i (vs ++ ws)
  sets_twice vs ws l mid last i j p q e = q ∙ ap (λ (z : List A). sets z j ws) p ∙ sets_next vs ws l i j e

  set_first : (vs l : List A) (a : A) (i j : ℕ) → i < j → sets (set l i a) j vs ≡ set (sets l j vs) i a
  set_first [] l a i j h = refl
  set_first (v ∷ vs) l a i j h = rw (set_comm l i j a v (λ e. omega arith)) (set_first vs (set l j v) a i (suc j) (omega arith))

  -- a write before another may come after it
  pub sets_first : (ws vs l : List A) (i j : ℕ) → i + length ws ≤ j → sets (sets l j vs) i ws ≡ sets (sets l i ws) j vs
  sets_first [] vs l i j h = refl
  sets_first (w ∷ ws) vs l i j h =
      ap (λ (z : List A). sets z (suc i) ws) (sym (set_first vs l w i j (omega arith)))
      ∙ sets_first ws vs (set l i w) (suc i) j (omega arith)

  take_sets : (vs l : List A) (a j : ℕ) → take a (sets l (a + j) vs) ≡ take a l
  take_sets [] l a j = refl
  take_sets (v ∷ vs) l a j = rw (← add-suc a j, take_sets vs (set l (a + j) v) a (suc j), take-set-le a l (a + j) v (omega arith))

  drop_sets : (vs l : List A) (a j : ℕ) → drop a (sets l (a + j) vs) ≡ sets (drop a l) j vs
  drop_sets [] l a j = refl
  drop_sets (v ∷ vs) l a j = rw (← add-suc a j, drop_sets vs (set l (a + j) v) a (suc j), drop-set-add a l j v)

  -- a write into the part that starts at a is a write into the whole
  pub sets_part : (vs l : List A) (a j : ℕ) → a ≤ length l
      → put_mid a (length l - a) l (sets (mid_of a (length l - a) l) j vs) ≡ sets l (a + j) vs
  sets_part vs l a j h =
      let m : mid_of a (length l - a) l ≡ drop a l = take_all (length l - a) (drop a l) (omega (arith, length-drop a l)) in
      let p : post_of a (length l - a) l ≡ [] = drop_of_length-le (drop a l) {i = length l - a} (omega (arith, length-drop a l)) in
      rw (m, p, append-nil, ← drop_sets vs l a j, ← take_sets vs l a j, take-append-drop)
