-- Rules: "Store words", rule "Cell of a number". A ring of words in a longer list. Each number has
-- its slot, and no two numbers of one window have the same.
use Rattle.std.specs.Prelude.{ℕ, zero, suc, ◌+◌, ◌%◌, List, set}

-- the window of a stream has 2,048 numbers, and each has a cell of its own
abbrev pub cells_of_a_place : ℕ
cells_of_a_place = 2048

-- the slot of a number in the ring that starts at base
abbrev pub slot : ℕ → ℕ → ℕ
slot base number = base + number % cells_of_a_place

-- the words with the slots of n numbers set to 0, starting at first
unfoldable pub emptied : List ℕ → ℕ → ℕ → ℕ → List ℕ
emptied words base first zero = words
emptied words base first (suc n) = emptied (set words (slot base first) 0) base (first + 1) n
