-- The shape of a store, and the places that a search finds. Assumes nothing.
use Prim.Native.Nat.{ℕ, ◌*◌, ◌<◌, ◌≤◌}
use mathlib.Core.Path.{◌≡◌, sym, ◌∙◌}
use mathlib.Core.Bool.{true, false, true≢false}
use mathlib.Core.List.{List}
use native.Mathlib.Omega.{arith}
use native.Mathlib.Decide.{ℕ_discrete, dec_le}
use borrow.Author.Tests.{lt-ltb, le-ltb, eq-eqb, ne_eqb, eqb-true}
use lib.ListN.{length}
use Rattle.std.specs.Prelude.{Some}
use Rattle.lists.proofs.First.{first_below}
use Rattle.places.specs.Place.{find_of, free_of}
use Rattle.places.specs.Shape.{shaped, Shaped, Misshapen, none, too_many_of, disagree, Ready, most_places}
use Rattle.ring.specs.Ring.{cells_of_a_place}

module _ (places cells : List ℕ) where
  pub shaped_none : length places ≡ 0 → shaped places cells ≡ false
  unfolding shaped
  shaped_none e = simp (eq-eqb (length places) 0 e)

  pub shaped_many : most_places < length places → shaped places cells ≡ false
  unfolding shaped
  shaped_many l = simp (ne_eqb (length places) 0 (λ e. omega arith), lt-ltb most_places (length places) l)

  pub shaped_by : 0 < length places → length places ≤ most_places → shaped places cells ≡ lib.Dec.eqb (length cells) (cells_of_a_place * length places)
  unfolding shaped
  shaped_by l h = simp (ne_eqb (length places) 0 (λ e. omega arith), le-ltb most_places (length places) h)

  pub shaped_is : Shaped places cells → shaped places cells ≡ true
  shaped_is s = shaped_by s.some s.few ∙ eq-eqb (length cells) (cells_of_a_place * length places) s.sized

  pub is_shaped : shaped places cells ≡ true → Shaped places cells
  is_shaped t =
      elim (ℕ_discrete (length places) 0) [
        | yes e ↦ absurd (true≢false (sym t ∙ shaped_none e))
        | no e ↦
            elim (dec_le (length places) most_places) [
              | yes h ↦ record { some = omega arith; few = h; sized = eqb-true _ _ (sym (shaped_by (omega arith) h) ∙ t) }
              | no h ↦ absurd (true≢false (sym t ∙ shaped_many (omega arith)))
            ]
      ]

  -- a place that a search found is there
  pub ready_found : (ssrc p : ℕ) → Shaped places cells → find_of places ssrc ≡ Some p → Ready places cells p
  ready_found ssrc p s f = record { there = let l = first_below _ _ _ _ f in omega arith; few = s.few; sized = s.sized }

  pub ready_free : (p : ℕ) → Shaped places cells → free_of places ≡ Some p → Ready places cells p
  ready_free p s f = record { there = let l = first_below _ _ _ _ f in omega arith; few = s.few; sized = s.sized }

pub misshapen_is : (places cells : List ℕ) → Misshapen places cells → shaped places cells ≡ false
misshapen_is places cells (none e) = shaped_none places cells e
misshapen_is places cells (too_many_of l) = shaped_many places cells l
misshapen_is places cells (disagree n) =
    elim (ℕ_discrete (length places) 0) [
      | yes e ↦ shaped_none places cells e
      | no e ↦
          elim (dec_le (length places) most_places) [
            | yes l ↦ shaped_by places cells (omega arith) l ∙ ne_eqb (length cells) (cells_of_a_place * length places) n
            | no l ↦ shaped_many places cells (omega arith)
          ]
    ]

-- a store has the shape or not
pub data Shape (places cells : List ℕ) : Type 0 where
  right : Shaped places cells → Shape places cells
  wrong : Misshapen places cells → Shape places cells

pub shape_of : (places cells : List ℕ) → Shape places cells
shape_of places cells =
    elim (ℕ_discrete (length places) 0) [
      | yes e ↦ wrong (none e)
      | no e ↦
          elim (dec_le (length places) most_places) [
            | yes l ↦
                elim (ℕ_discrete (length cells) (cells_of_a_place * length places)) [
                  | yes q ↦ right (record { some = omega arith; few = l; sized = q })
                  | no q ↦ wrong (disagree q)
                ]
            | no l ↦ wrong (too_many_of (omega arith))
          ]
    ]
