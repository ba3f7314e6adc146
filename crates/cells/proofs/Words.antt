-- What a word says, and what an arrival makes of it. Assumes nothing.
use Prim.Native.Nat.{ℕ, ◌%◌, ◌<◌, ◌≤◌}
use mathlib.Core.Path.{◌≡◌}
use native.Mathlib.Omega.{arith}
use native.Mathlib.Decide.{ℕ_discrete, dec_lt}
use borrow.Author.Tests.{lt-ltb, le-ltb, eq-eqb, ne_eqb}
use Rattle.lists.proofs.Cases.{never}
use Rattle.metric.specs.Metric.{congested}
use Rattle.std.specs.Prelude.{Option, Some, None}
use Rattle.cells.specs.Cell.{kinds, least_filled, word_time, read_cell, filled_word, folded_mark, copied_word, word_after}

-- a mark of two bits stays one
pub folded_small : (held copy : ℕ) → held < 4 → folded_mark held copy < 4
unfolding folded_mark
folded_small held copy l =
    elim (ℕ_discrete copy congested) [ yes e ↦ simp (eq-eqb copy congested e) (omega arith) | no e ↦ simp (ne_eqb copy congested e) l ]

-- how a word reads
module _ (word : ℕ) where
  pub read_empty : word % kinds < least_filled → read_cell word ≡ None
  unfolding read_cell
  read_empty l = simp (lt-ltb (word % kinds) least_filled l)

  pub read_filled : least_filled ≤ word % kinds → read_cell word ≡ Some (record { mark = word % 4; time = word_time word })
  unfolding read_cell
  read_filled l = simp (le-ltb (word % kinds) least_filled l)

-- what an arrival makes of it
module _ (word mark : ℕ) (time : Option ℕ) where
  pub after_empty : word % kinds < least_filled → word_after mark time word ≡ filled_word mark time
  unfolding word_after
  after_empty l = simp (lt-ltb (word % kinds) least_filled l)

  pub after_filled : least_filled ≤ word % kinds → word_after mark time word ≡ copied_word mark word
  unfolding word_after
  after_filled l = simp (le-ltb (word % kinds) least_filled l)

  -- the same, by how the word reads
  pub after_read_empty : read_cell word ≡ None → word_after mark time word ≡ filled_word mark time
  after_read_empty e =
      elim (dec_lt (word % kinds) least_filled) [
        | yes l ↦ after_empty l
        | no l ↦ let r = read_filled word (omega arith) in never (cc)
      ]

  pub after_read_filled : (m : ℕ) (t : Option ℕ) → read_cell word ≡ Some (record { mark = m; time = t }) → word_after mark time word ≡ copied_word mark word
  after_read_filled m t e =
      elim (dec_lt (word % kinds) least_filled) [
        | yes l ↦ let r = read_empty word l in never (cc)
        | no l ↦ after_filled (omega arith)
      ]
