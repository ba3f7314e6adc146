-- The test of the search by the word of a cell. Assumes nothing.
use Prim.Native.Nat.{ℕ, ◌%◌, ◌<◌, ◌≤◌}
use mathlib.Core.Path.{◌≡◌}
use mathlib.Core.Bool.{true, false}
use borrow.Author.Tests.{lt-ltb, le-ltb}
use Rattle.cells.specs.Cell.{kinds, least_filled, read_cell}
use Rattle.oldest.specs.Oldest.{is_filled}

module _ (word : ℕ) where
  pub word_filled : least_filled ≤ word % kinds → is_filled (read_cell word) ≡ true
  unfolding read_cell
  word_filled l = simp (le-ltb (word % kinds) least_filled l)

  pub word_empty : word % kinds < least_filled → is_filled (read_cell word) ≡ false
  unfolding read_cell
  word_empty l = simp (lt-ltb (word % kinds) least_filled l)
