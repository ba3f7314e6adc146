-- How a window moves, over any word of a cell. Assumes nothing.
use Prim.Native.Nat.{ℕ, ◌+◌, ◌-◌, ◌*◌, ◌%◌, ◌<◌, ◌≤◌}
use mathlib.Core.Path.{◌≡◌, ◌∙◌}
use mathlib.Core.List.{List}
use native.Mathlib.Omega.{arith}
use lib.ListN.{length, set}
use lib.Seq.{get_or-set_same, set-set}
use Rattle.refusal.specs.declared.Refusal.{Refusal}
use Rattle.window.specs.Number.{move_of}
use Rattle.ring.specs.Ring.{cells_of_a_place, emptied}
use Rattle.window.specs.declared.Move.{Move}
use Rattle.ring.proofs.Ring.{length_emptied, emptied_set, emptied_last}
use Rattle.places.specs.Place.{highest_at}
use Rattle.place_window.specs.Window.{cell_index, newest_emptied, opened, updated, moved_by_of, continued}

-- n numbers come into the window that ends with number
module _ (cells : List ℕ) (p number n : ℕ) (some : 0 < n) (few : n ≤ cells_of_a_place) where
  abbrev first : ℕ
  first = number + (cells_of_a_place + 1) - n

  abbrev others : List ℕ
  others = emptied cells (cells_of_a_place * p) first (n - 1)

  -- the number's own cell is the last of them
  own_last : newest_emptied cells p number n ≡ set others (cell_index p number) 0
  unfolding newest_emptied
  own_last =
      let own : cells_of_a_place * p + (first + (n - 1)) % cells_of_a_place ≡ cell_index p number = omega arith in
      emptied_last cells (cells_of_a_place * p) first n some ∙ rw own

  -- and none of the others, so it may be written before they are emptied
  own_apart : (i : ℕ) → i < n - 1 → cell_index p number ≡ cells_of_a_place * p + (first + i) % cells_of_a_place → ⊥
  own_apart i l e = omega arith

  pub opens : (word : ℕ) → emptied (set cells (cell_index p number) word) (cells_of_a_place * p) first (n - 1) ≡ opened cells p number n word
  unfolding opened
  opens word = rw (own_last, set-set) (emptied_set (n - 1) cells (cells_of_a_place * p) first (cell_index p number) word own_apart)

  -- f makes of the number's own word what it makes of 0
  pub opened_updated : (f : ℕ → ℕ) → cells_of_a_place * p + cells_of_a_place ≤ length cells
      → updated f (newest_emptied cells p number n) p number ≡ opened cells p number n (f 0)
  unfolding updated opened
  opened_updated f room =
      let there : cell_index p number < length others = rw length_emptied (omega arith) in
      rw (own_last, get_or-set_same others (cell_index p number) 0 0 there)

-- a number of a stream that the place p holds, by how it moves the window
module _ {A : Type 0} (accepted : A) (refused : Refusal → A) (f : ℕ → ℕ) (places cells : List ℕ) (p ssrc number : ℕ) where
  pub continued_by : (m : Move) → move_of (highest_at places p) number ≡ m
      → moved_by_of accepted refused f m places cells p ssrc number ≡ continued accepted refused f places cells p ssrc number
  unfolding continued
  continued_by m e = rw e
