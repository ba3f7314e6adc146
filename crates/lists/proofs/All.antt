-- Laws of `All`. Assumes nothing.
use mathlib.Core.List.Memᴰ
use mathlib.Core.List.{List, [], ◌∷◌, ◌++◌, map, drop_last, Memᴰ}
use mathlib.Core.Logic.{⊎_elim}
use Rattle.lists.specs.All.{All}

module _ {A : Type 0} where
  pub all_map : {P Q : A → Type 0} (xs : List A) → ((x : A) → P x → Q x) → All P xs → All Q xs
  all_map [] f h = tt
  all_map (x ∷ xs) f h = (f x h.0, all_map xs f h.1)

  pub all_zip : {P Q R : A → Type 0} (xs : List A) → ((x : A) → P x → Q x → R x) → All P xs → All Q xs → All R xs
  all_zip [] f p q = tt
  all_zip (x ∷ xs) f p q = (f x p.0 q.0, all_zip xs f p.1 q.1)

  pub all_left : (P : A → Type 0) (xs ys : List A) → All P (xs ++ ys) → All P xs
  all_left P [] ys h = tt
  all_left P (x ∷ xs) ys h = (h.0, all_left P xs ys h.1)

  pub all_right : (P : A → Type 0) (xs ys : List A) → All P (xs ++ ys) → All P ys
  all_right P [] ys h = h
  all_right P (x ∷ xs) ys h = all_right P xs ys h.1

  pub all_over : {B : Type 0} (P : B → Type 0) (f : A → B) (xs : List A) → All (λ x. P (f x)) xs → All P (map f xs)
  all_over P f [] h = tt
  all_over P f (x ∷ xs) h = (h.0, all_over P f xs h.1)

  pub all_append : (P : A → Type 0) (xs : List A) (x : A) → All P xs → P x → All P (xs ++ (x ∷ []))
  all_append P [] x h p = (p, tt)
  all_append P (y ∷ xs) x h p = (h.0, all_append P xs x h.1 p)

  pub all_join : (P : A → Type 0) (xs ys : List A) → All P xs → All P ys → All P (xs ++ ys)
  all_join P [] ys h g = g
  all_join P (x ∷ xs) ys h g = (h.0, all_join P xs ys h.1 g)

  pub all_member : (P : A → Type 0) (xs : List A) (x : A) → All P xs → Memᴰ x xs → P x
  all_member P [] x h m = absurd (Memᴰ.not-nil m)
  all_member P (y ∷ xs) x h m = ⊎_elim (λ e. rw e h.0) (λ n. all_member P xs x h.1 n) (Memᴰ.cases_cons m)

  pub all_but_last : (P : A → Type 0) (xs : List A) → All P xs → All P (drop_last xs)
  all_but_last P [] h = tt
  all_but_last P (x ∷ []) h = tt
  all_but_last P (x ∷ (y ∷ ys)) h = (h.0, all_but_last P (y ∷ ys) h.1)
