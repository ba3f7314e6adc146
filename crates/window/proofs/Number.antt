-- `move_of` in each of its cases. Assumes nothing.
use Rattle.std.proofs.Common.{◌≡◌, ℕ, ◌<◌, ◌≤◌, cond, ltb, sym, arith, le-ltb, lt-ltb, eq-eqb, ne_eqb, le-leb}
use native.Mathlib.Decide.{ℕ_discrete, dec_le}
use borrow.Author.Tests.{lt-leb}
use Rattle.lists.proofs.Cases.{never}
use Rattle.window.specs.Number.{distance_of, move_of, farthest_ahead}
use Rattle.ring.specs.Ring.{cells_of_a_place}
use Rattle.window.specs.declared.Move.TheVariants.{Ahead, Within, TooOld}

module _ (highest number : ℕ) where
  -- f from 1 to 32,767
  pub move_ahead : 0 < distance_of number highest → distance_of number highest ≤ farthest_ahead → move_of highest number ≡ Ahead (distance_of number highest)
  unfolding move_of
  move_ahead l h = simp (ne_eqb (distance_of number highest) 0 (λ e. omega arith), le-leb (distance_of number highest) farthest_ahead h)

  pub move_within : (0 < distance_of number highest → farthest_ahead < distance_of number highest) → distance_of highest number < cells_of_a_place
      → move_of highest number ≡ Within (distance_of highest number)
  unfolding move_of
  move_within n h =
      elim (ℕ_discrete (distance_of number highest) 0) [
        | yes e ↦ simp (eq-eqb (distance_of number highest) 0 e, lt-ltb (distance_of highest number) cells_of_a_place h)
        | no e ↦
            simp (
              ne_eqb (distance_of number highest) 0 e,
              lt-leb (distance_of number highest) farthest_ahead (n (omega arith)),
              lt-ltb (distance_of highest number) cells_of_a_place h,
            )
      ]

  pub move_old : (0 < distance_of number highest → farthest_ahead < distance_of number highest) → cells_of_a_place ≤ distance_of highest number
      → move_of highest number ≡ TooOld
  unfolding move_of
  move_old n h =
      elim (ℕ_discrete (distance_of number highest) 0) [
        | yes e ↦ simp (eq-eqb (distance_of number highest) 0 e, le-ltb (distance_of highest number) cells_of_a_place h)
        | no e ↦
            simp (
              ne_eqb (distance_of number highest) 0 e,
              lt-leb (distance_of number highest) farthest_ahead (n (omega arith)),
              le-ltb (distance_of highest number) cells_of_a_place h,
            )
      ]

  -- a number is ahead only for f from 1 to 32,767
  pub ahead_is : (f : ℕ) → move_of highest number ≡ Ahead f → (f ≡ distance_of number highest) × (0 < f) × (f ≤ farthest_ahead)
  unfolding move_of
  ahead_is f e =
      elim (ℕ_discrete (distance_of number highest) 0) [
        | yes z ↦ absurd (behind (distance_of highest number) (simp (eq-eqb (distance_of number highest) 0 z) at e))
        | no z ↦
            elim (dec_le (distance_of number highest) farthest_ahead) [
              | yes l ↦
                  let g : Ahead (distance_of number highest) ≡ Ahead f =
                  simp (ne_eqb (distance_of number highest) 0 z, le-leb (distance_of number highest) farthest_ahead l) at e in
                  let q : distance_of number highest ≡ f = cc in
                  (sym q, omega arith, omega arith)
              | no l ↦
                  absurd (behind (distance_of highest number)
                  (simp (ne_eqb (distance_of number highest) 0 z, lt-leb (distance_of number highest) farthest_ahead (omega arith)) at e))
            ]
      ]
    where
      behind : (b : ℕ) → cond (ltb b cells_of_a_place) (Within b) TooOld ≡ Ahead f → ⊥
      behind b g =
          elim (dec_le cells_of_a_place b) [
            | yes l ↦ let h : TooOld ≡ Ahead f = simp (le-ltb b cells_of_a_place l) at g in never (cc)
            | no l ↦ let h : Within b ≡ Ahead f = simp (lt-ltb b cells_of_a_place (omega arith)) at g in never (cc)
          ]
