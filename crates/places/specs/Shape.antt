-- Rules: "Arrivals and the window", rule "Store". The shape of a store: 1 to 16 places, each with
-- 2,048 cells.
use Rattle.std.specs.Prelude.{ℕ, ◌*◌, ◌≤◌, ◌<◌, ◌≡◌, Bool, false, cond, List, length, eqb, ltb}
use Rattle.ring.specs.Ring.{cells_of_a_place}

abbrev pub most_places : ℕ
most_places = 16

unfoldable pub shaped : List ℕ → List ℕ → Bool
shaped places cells =
    cond (eqb (length places) 0) false
    (cond (ltb most_places (length places)) false (eqb (length cells) (cells_of_a_place * length places)))

-- the same, part by part
pub record Shaped (places cells : List ℕ) : Type 0 where
  pub some : 0 < length places
  pub few : length places ≤ most_places
  pub sized : length cells ≡ cells_of_a_place * length places

-- its contrary, refusal 4: not 1 to 16 places, or not 2,048 cells for each
pub data Misshapen (places cells : List ℕ) : Type 0 where
  none : length places ≡ 0 → Misshapen places cells
  too_many_of : most_places < length places → Misshapen places cells
  disagree : (length cells ≡ cells_of_a_place * length places → ⊥) → Misshapen places cells

-- the place p is there, with its cells
pub record Ready (places cells : List ℕ) (p : ℕ) : Type 0 where
  pub there : p < length places
  pub few : length places ≤ most_places
  pub sized : length cells ≡ cells_of_a_place * length places
