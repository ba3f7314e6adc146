-- A number is admitted or refused for the reason that the rules name, and for no other.
-- Assumes nothing.
use Prim.Native.Nat.{ℕ, ◌<◌}
use mathlib.Core.Path.{◌≡◌, refl, sym}
use mathlib.Core.List.{List}
use native.Mathlib.Omega.{arith}
use native.Mathlib.Decide.{dec_le, dec_lt}
use Rattle.std.specs.Prelude.{Option, Some, None}
use Rattle.refusal.specs.declared.Refusal.{Refusal}
use Rattle.ring.specs.Ring.{cells_of_a_place}
use Rattle.window.specs.Number.{distance_of, move_of, farthest_ahead}
use Rattle.window.specs.declared.Move.{Move}
use Rattle.window.proofs.Number.{move_ahead, move_within, move_old}
use Rattle.places.specs.Place.{highest_at, find_of, free_of}
use Rattle.places.specs.After.{StoreAfter}
use Rattle.places.specs.Held.{HeldAt, Vacant}
use Rattle.places.proofs.Held.{found_held, held_found, unheld_lost, lost_unheld, full_none, none_full, found_vacant}
use Rattle.place_window.specs.Window.{moved, moved_by_of, continued, started_at, admitted_at}
use Rattle.place_window.specs.Given.{Old, AdmissionGiven}
use Rattle.place_window.proofs.Moving.{continued_by}
use Rattle.window.specs.declared.Move.TheVariants as move

-- ---- how a number moves a window
data Moved (high number : ℕ) : Type 0 where
  ahead : move_of high number ≡ move.Ahead (distance_of number high) → (Old high number → ⊥) → Moved high number
  within : move_of high number ≡ move.Within (distance_of high number) → (Old high number → ⊥) → Moved high number
  old : move_of high number ≡ move.TooOld → Old high number → Moved high number

moved_by : (high number : ℕ) → Moved high number
moved_by high number =
    elim (dec_le (distance_of number high) farthest_ahead) [
      | yes f ↦
          elim (dec_le (distance_of number high) 0) [
            | yes z ↦ behind (λ l. omega arith)
            | no z ↦ ahead (move_ahead high number (omega arith) f) (λ o. let g = o.not_ahead (omega arith) in omega arith)
          ]
      | no f ↦ behind (λ l. omega arith)
    ]
  where
    behind : (0 < distance_of number high → farthest_ahead < distance_of number high) → Moved high number
    behind n =
        elim (dec_lt (distance_of high number) cells_of_a_place) [
          | yes b ↦ within (move_within high number n b) (λ o. let g = o.below in omega arith)
          | no b ↦ old (move_old high number n (omega arith)) (record { not_ahead = λ l. let g = n l in omega arith; below = omega arith })
        ]

-- ---- admitted or refused, over what becomes of the number's own word
module _ {A : Type 0} (accepted : A) (refused : Refusal → A) (f : ℕ → ℕ) (places cells : List ℕ) (ssrc number : ℕ) where
  abbrev Given : StoreAfter A → Type 0
  Given o = AdmissionGiven accepted refused places cells ssrc number o

  by : (p : ℕ) (m : Move) → move_of (highest_at places p) number ≡ m
      → continued accepted refused f places cells p ssrc number ≡ moved_by_of accepted refused f m places cells p ssrc number
  by p m e = sym (continued_by accepted refused f places cells p ssrc number m e)

  known_answer : (p high : ℕ) → HeldAt places ssrc p high → (Old high number → ⊥)
      → accepted ≡ (continued accepted refused f places cells p ssrc number).answer
  unfolding moved
  known_answer p high K n = by_move (moved_by (highest_at places p) number)
    where
      by_move : Moved (highest_at places p) number → accepted ≡ (continued accepted refused f places cells p ssrc number).answer
      by_move (ahead e m) = rw (by p (move.Ahead (distance_of number (highest_at places p))) e)
      by_move (within e m) = rw (by p (move.Within (distance_of (highest_at places p) number)) e)
      by_move (old e o) = absurd (n (rw (held_found places ssrc p high K).1 at o))

  new_answer : (k : ℕ) → Vacant places k → accepted ≡ (started_at accepted refused f (free_of places) places cells ssrc number).answer
  unfolding moved
  new_answer k v = by_search (free_of places) refl
    where
      by_search : (g : Option ℕ) → free_of places ≡ g → accepted ≡ (started_at accepted refused f g places cells ssrc number).answer
      by_search (Some j) e = refl
      by_search None e = absurd (full_none places e k v)

  -- no other answer is given for a reason of the rules
  pub admission_only : (o : StoreAfter A) → AdmissionGiven accepted refused places cells ssrc number o
      → o.answer ≡ (admitted_at accepted refused f (find_of places ssrc) places cells ssrc number).answer
  admission_only o (AdmissionGiven.too_old p high K w) =
      let k = held_found places ssrc p high K in
      rw (k.0, by p move.TooOld (rw k.1 (move_old high number w.not_ahead w.below)))
  admission_only o (AdmissionGiven.no_free_place n v) = rw (unheld_lost places ssrc n, none_full places v)
  admission_only o (AdmissionGiven.later p high K n a b) = rw (held_found places ssrc p high K).0 (known_answer p high K n)
  admission_only o (AdmissionGiven.first n k v a b) = rw (unheld_lost places ssrc n) (new_answer k v)

  known_given : (p : ℕ) → find_of places ssrc ≡ Some p → Moved (highest_at places p) number
      → Given (continued accepted refused f places cells p ssrc number)
  unfolding moved
  known_given p g (ahead e n) =
      rw (by p (move.Ahead (distance_of number (highest_at places p))) e)
      (AdmissionGiven.later p (highest_at places p) (found_held places ssrc p g) n _ _)
  known_given p g (within e n) =
      rw (by p (move.Within (distance_of (highest_at places p) number)) e)
      (AdmissionGiven.later p (highest_at places p) (found_held places ssrc p g) n _ _)
  known_given p g (old e o) = rw (by p move.TooOld e) (AdmissionGiven.too_old p (highest_at places p) (found_held places ssrc p g) o)

  new_given : (k : Option ℕ) → free_of places ≡ k → find_of places ssrc ≡ None → Given (started_at accepted refused f k places cells ssrc number)
  unfolding moved
  new_given (Some k) v g = AdmissionGiven.first (lost_unheld places ssrc g) k (found_vacant places k v) _ _
  new_given None v g = AdmissionGiven.no_free_place (lost_unheld places ssrc g) (full_none places v)

  -- the answer is given for the reason that the rules name
  pub admission_given : AdmissionGiven accepted refused places cells ssrc number
      (admitted_at accepted refused f (find_of places ssrc) places cells ssrc number)
  admission_given = by_search (find_of places ssrc) refl
    where
      by_search : (g : Option ℕ) → find_of places ssrc ≡ g → Given (admitted_at accepted refused f g places cells ssrc number)
      by_search (Some p) e = known_given p e (moved_by (highest_at places p) number)
      by_search None e = new_given (free_of places) refl e

-- a refused number changes nothing
module _ {A : Type 0} (accepted : A) (refused : Refusal → A) (apart : (e : Refusal) → accepted ≡ refused e → ⊥)
    (places cells : List ℕ) (ssrc number : ℕ) where
  pub admission_kept : (o : StoreAfter A) → AdmissionGiven accepted refused places cells ssrc number o → (e : Refusal)
      → o.answer ≡ refused e → (o.places ≡ places) × (o.cells ≡ cells)
  admission_kept o (AdmissionGiven.too_old p high K w) e q = (refl, refl)
  admission_kept o (AdmissionGiven.no_free_place n v) e q = (refl, refl)
  admission_kept o (AdmissionGiven.later p high K n a b) e q = absurd (apart e q)
  admission_kept o (AdmissionGiven.first n k v a b) e q = absurd (apart e q)
