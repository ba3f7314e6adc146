-- Rules: "Arrivals and the window", "Store words". Where a number's cell stands, and how a call on
-- a number moves its stream's window. All of it is over f, what becomes of the word of the number's
-- own cell, and over the answer that a call gives.
use Rattle.std.specs.Prelude.{ℕ, ◌+◌, ◌-◌, ◌*◌, min, List, get_or, set, Option, Some, None}
use Rattle.refusal.specs.declared.Refusal.{Refusal}
use Rattle.window.specs.Number.{move_of}
use Rattle.ring.specs.Ring.{cells_of_a_place, slot, emptied}
use Rattle.window.specs.declared.Move.{Move}
use Rattle.places.specs.Place.{place_word, highest_at, free_of}
use Rattle.places.specs.After.{StoreAfter, store_after}
use Rattle.refusal.specs.declared.Refusal.TheVariants.{NoFreePlace, TooOld}
use Rattle.window.specs.declared.Move.TheVariants as move

-- where the cell of a number stands, and its word
abbrev pub cell_index : ℕ → ℕ → ℕ
cell_index place number = slot (cells_of_a_place * place) number

abbrev pub cell_at : List ℕ → ℕ → ℕ → ℕ
cell_at cells place number = get_or cells (cell_index place number) 0

-- the cells with those of the n newest numbers of the window that ends with number emptied
unfoldable pub newest_emptied : List ℕ → ℕ → ℕ → ℕ → List ℕ
newest_emptied cells place number n = emptied cells (cells_of_a_place * place) (number + (cells_of_a_place + 1) - n) n

-- the same, and the number's own cell has a word
unfoldable pub opened : List ℕ → ℕ → ℕ → ℕ → ℕ → List ℕ
opened cells place number n word = set (newest_emptied cells place number n) (cell_index place number) word

module _ (f : ℕ → ℕ) where
  -- the cells with that of a number changed by f
  unfoldable pub updated : List ℕ → ℕ → ℕ → List ℕ
  updated cells place number = set cells (cell_index place number) (f (cell_at cells place number))

module _ {A : Type 0} (accepted : A) (refused : Refusal → A) (f : ℕ → ℕ) where
  -- the number becomes the highest of its stream, and n numbers come into the window
  unfoldable pub moved : List ℕ → List ℕ → ℕ → ℕ → ℕ → ℕ → StoreAfter A
  moved places cells p ssrc number n =
      store_after accepted (set places p (place_word ssrc number)) (updated f (newest_emptied cells p number n) p number)

  -- a number of a stream that the place p holds, by how it moves the window
  abbrev pub moved_by_of : Move → List ℕ → List ℕ → ℕ → ℕ → ℕ → StoreAfter A
  moved_by_of (move.Ahead d) places cells p ssrc number = moved places cells p ssrc number (min d cells_of_a_place)
  moved_by_of (move.Within b) places cells p ssrc number = store_after accepted places (updated f cells p number)
  moved_by_of move.TooOld places cells p ssrc number = store_after (refused TooOld) places cells

  unfoldable pub continued : List ℕ → List ℕ → ℕ → ℕ → ℕ → StoreAfter A
  continued places cells p ssrc number = moved_by_of (move_of (highest_at places p) number) places cells p ssrc number

  -- rule "New stream": a number of a stream that no place holds takes the lowest free place and
  -- empties its cells
  abbrev pub started_at : Option ℕ → List ℕ → List ℕ → ℕ → ℕ → StoreAfter A
  started_at (Some p) places cells ssrc number = moved places cells p ssrc number cells_of_a_place
  started_at None places cells ssrc number = store_after (refused NoFreePlace) places cells

  -- a number of a stream, by where the stream was found: 3 or 2
  abbrev pub admitted_at : Option ℕ → List ℕ → List ℕ → ℕ → ℕ → StoreAfter A
  admitted_at (Some p) places cells ssrc number = continued places cells p ssrc number
  admitted_at None places cells ssrc number = started_at (free_of places) places cells ssrc number
