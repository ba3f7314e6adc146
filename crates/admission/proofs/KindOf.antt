-- Which kind an accepted arrival is, by how its number moves the window. Assumes nothing.
use Prim.Native.Nat.{ℕ, ◌-◌, ◌<◌, ◌≤◌}
use mathlib.Core.Path.{◌≡◌, refl}
use mathlib.Core.Bool.{Bool, true, false}
use mathlib.Core.List.{List}
use native.Mathlib.Omega.{arith}
use native.Mathlib.Decide.{ℕ_discrete}
use borrow.Author.Tests.{le-leb, lt-leb, eq-eqb, ne_eqb}
use Rattle.lists.proofs.Cases.{never}
use Rattle.window.specs.Number.{distance_of, is_ahead, move_of, farthest_ahead}
use Rattle.window.proofs.Number.{ahead_is}
use Rattle.places.specs.Place.{highest_at}
use Rattle.place_window.specs.Window.{cell_at}
use Rattle.cells.specs.Cell.{read_cell}
use Rattle.admission.specs.Kind.{kind_in, later_kind, kind_at}
use Rattle.std.specs.Prelude.{Some, None}
use Rattle.window.specs.declared.Move.TheVariants as move
use Rattle.admission.specs.declared.ArrivalKind.TheVariants as kind

pub is_ahead_lem : (f : ℕ) → 0 < f → f ≤ farthest_ahead → is_ahead f ≡ true
is_ahead_lem f l h = simp (ne_eqb f 0 (λ e. omega arith), le-leb f farthest_ahead h)

pub is_behind : (f : ℕ) → (0 < f → farthest_ahead < f) → is_ahead f ≡ false
is_behind f n =
    elim (ℕ_discrete f 0) [
      | yes e ↦ simp (eq-eqb f 0 e)
      | no e ↦ simp (ne_eqb f 0 e, lt-leb f farthest_ahead (n (omega arith)))
    ]

-- a number of the window is not ahead
not_ahead_lem : (highest number b : ℕ) → move_of highest number ≡ move.Within b → is_ahead (distance_of number highest) ≡ false
unfolding move_of
not_ahead_lem highest number b e = go (is_ahead (distance_of number highest)) refl
  where
    go : (t : Bool) → is_ahead (distance_of number highest) ≡ t → t ≡ false
    go false h = refl
    go true h = let a : move.Ahead (distance_of number highest) ≡ move.Within b = rw h at e in never (cc)

-- where no place holds the stream
pub kind_new : (places cells : List ℕ) (number : ℕ) → kind_at None places cells number ≡ kind.First
unfolding kind_at
kind_new places cells number = refl

-- where place p holds it
module _ (places cells : List ℕ) (p number : ℕ) where
  pub kind_later : kind_at (Some p) places cells number ≡ later_kind (distance_of number (highest_at places p)) (read_cell (cell_at cells p number))
  unfolding kind_at
  kind_later = refl

  pub kind_ahead : (f : ℕ) → move_of (highest_at places p) number ≡ move.Ahead f → kind_at (Some p) places cells number ≡ kind.Ahead (f - 1)
  kind_ahead f e =
      let known = ahead_is (highest_at places p) number f e in
      rw (kind_later, ← known.0, is_ahead_lem f known.1 known.2)

  pub kind_within : (b : ℕ) → move_of (highest_at places p) number ≡ move.Within b
      → kind_at (Some p) places cells number ≡ kind_in (read_cell (cell_at cells p number))
  kind_within b e = rw (kind_later, not_ahead_lem (highest_at places p) number b e)
