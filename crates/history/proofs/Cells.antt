-- What a cell's word says, and what one more accepted arrival makes of it. Assumes nothing.
use Prim.Native.Nat.{ℕ, ◌+◌, ◌*◌, ◌/◌, ◌%◌, ◌<◌, ◌≤◌}
use mathlib.Core.Path.{◌≡◌, refl, sym, ap, ◌∙◌}
use native.Mathlib.Omega.{arith}
use native.Mathlib.Decide.{dec_lt}
use borrow.Author.Tests.{lt-ltb, le-ltb}
use Rattle.std.specs.Prelude.{Option, Some, None}
use Rattle.metric.specs.declared.Arrived.{Arrived}
use Rattle.metric.specs.Metric.{TimeInRange, congested, times}
use Rattle.streams.specs.Reading.{Lawful, Enters}
use Rattle.cells.specs.Cell.{word_time, read_cell, filled_word, folded_mark, word_after, least_filled, kinds, least_timed}
use Rattle.cells.proofs.Words.{folded_small, read_empty, read_filled, after_empty, after_filled}
use Rattle.history.specs.Calls.{Accepted}
use Rattle.history.specs.Meaning.{entry_of}
use Rattle.history.specs.Reading.{arrival_meaning}
use Rattle.history.proofs.Copies.{after_copy, by_same, by_other, by_none}

-- ---- one cell
module _ (word : ℕ) where
  time_unknown : word % kinds < least_timed → word_time word ≡ None
  unfolding word_time
  time_unknown l = simp (lt-ltb (word % kinds) least_timed l)

  time_known_lem : least_timed ≤ word % kinds → word_time word ≡ Some (word / kinds % times)
  unfolding word_time
  time_known_lem l = simp (le-ltb (word % kinds) least_timed l)

pub read_zero : read_cell 0 ≡ None
read_zero = read_empty 0 (omega arith)

pub read_word : (mark : ℕ) (time : Option ℕ) → mark ≤ congested → TimeInRange time → read_cell (filled_word mark time) ≡ Some (record { mark = mark; time = time })
read_word mark None m r =
    let a : (least_filled + mark) % 4 ≡ mark = omega arith in
    rw (read_filled (least_filled + mark) (omega arith), time_unknown (least_filled + mark) (omega arith), a)
read_word mark (Some t) m r =
    let a : (least_timed + mark + kinds * t) % 4 ≡ mark = omega arith in
    let q : (least_timed + mark + kinds * t) / kinds ≡ t = omega arith in
    let b : t % times ≡ t = omega arith in
    rw (read_filled (least_timed + mark + kinds * t) (omega arith), time_known_lem (least_timed + mark + kinds * t) (omega arith), a, q, b)

-- another mark leaves the time
read_marked : (word mark : ℕ) → least_filled ≤ word % kinds → mark < 4 → read_cell (word / 4 * 4 + mark) ≡ Some (record { mark = mark; time = word_time word })
read_marked word mark l m =
    let a : (word / 4 * 4 + mark) % 4 ≡ mark = omega arith in
    let d : (word / 4 * 4 + mark) / kinds ≡ word / kinds = omega arith in
    elim (dec_lt (word % kinds) least_timed) [
      | yes k ↦ rw (read_filled (word / 4 * 4 + mark) (omega arith), time_unknown (word / 4 * 4 + mark) (omega arith), time_unknown word k, a)
      | no k ↦ rw (read_filled (word / 4 * 4 + mark) (omega arith), time_known_lem (word / 4 * 4 + mark) (omega arith), time_known_lem word (omega arith), a, d)
    ]

-- a word of any content after an arrival
pub read_after_lem : (word mark : ℕ) (time : Option ℕ) → mark ≤ congested → TimeInRange time → read_cell (word_after mark time word) ≡ after_copy (read_cell word) mark time
read_after_lem word mark time m r =
    elim (dec_lt (word % kinds) least_filled) [
      | yes l ↦ rw (after_empty word mark time l, read_empty word l) (read_word mark time m r)
      | no l ↦
          rw (after_filled word mark time (omega arith), read_filled word (omega arith))
          (read_marked word (folded_mark (word % 4) mark) (omega arith) (folded_small (word % 4) mark (omega arith)))
    ]

-- ---- what a word says is what the entries of its number say
pub arrival_laws : Lawful arrival_meaning
arrival_laws = record {
  silent = λ es n h. by_none n es h ∙ sym read_zero;
  other = λ es e n q. by_other e n q es;
}

-- an arrival makes of a word what its entry makes of what the word says
pub arrival_enters : (a : Accepted) → a.mark ≤ congested → TimeInRange a.time → (full : ℕ)
    → Enters arrival_meaning (word_after a.mark a.time) (entry_of a full)
arrival_enters a m r full word es before =
    read_after_lem word a.mark a.time m r
    ∙ ap (λ (c : Option Arrived). after_copy c a.mark a.time) before
    ∙ sym (by_same (entry_of a full) full refl es)
