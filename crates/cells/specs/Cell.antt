-- Rules: "Store words", "Copies". How a cell's 64-bit word stores what arrived (rule "Cell word"),
-- and how the next copy changes it. Any word reads as empty or filled.
--   word % 16    0-7 empty, 8-11 received without a time, 12-15 received at a known time
--   word % 4     the ECN mark, if received
--   word / 16    the arrival time, if known
use Rattle.std.specs.Prelude.{ℕ, ◌+◌, ◌*◌, ◌/◌, ◌%◌, cond, eqb, ltb, Option, Some, None}
use Rattle.metric.specs.Metric.{times, congested}
use Rattle.metric.specs.declared.Arrived.{Arrived}

-- a word has one of 16 kinds; it is filled where its kind is 8 or more, and has a time where it is 12 or more
abbrev pub kinds : ℕ
kinds = 16

abbrev pub least_filled : ℕ
least_filled = 8

abbrev pub least_timed : ℕ
least_timed = 12

-- ---- reading

unfoldable pub word_time : ℕ → Option ℕ
word_time word = cond (ltb (word % kinds) least_timed) None (Some (word / kinds % times))

unfoldable pub read_cell : ℕ → Option Arrived
read_cell word = cond (ltb (word % kinds) least_filled) None (Some (record { mark = word % 4; time = word_time word }))

-- ---- an accepted arrival

abbrev pub filled_word : ℕ → Option ℕ → ℕ
filled_word mark None = least_filled + mark
filled_word mark (Some t) = least_timed + mark + kinds * t

-- rule "ECN-CE of any copy": the mark of a filled cell after a copy is ECN-CE if the copy carries
-- it, else as it was
unfoldable pub folded_mark : ℕ → ℕ → ℕ
folded_mark held copy = cond (eqb copy congested) congested held

-- rule "First copy": a filled cell after a copy keeps its time, and its mark is folded
abbrev pub copied_word : ℕ → ℕ → ℕ
copied_word mark word = word / 4 * 4 + folded_mark (word % 4) mark

-- an empty cell is filled; an arrival whose cell is filled is a copy
unfoldable pub word_after : ℕ → Option ℕ → ℕ → ℕ
word_after mark time word = cond (ltb (word % kinds) least_filled) (filled_word mark time) (copied_word mark word)
