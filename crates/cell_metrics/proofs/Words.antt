-- The metric of a word, in each of its cases. Assumes nothing.
use Prim.Native.Nat.{ℕ, ◌/◌, ◌%◌, ◌<◌, ◌≤◌}
use mathlib.Core.Path.{◌≡◌}
use native.Mathlib.Omega.{arith}
use borrow.Author.Tests.{lt-ltb, le-ltb}
use Rattle.metric.specs.Metric.{times, encode_of, age_of, ato_of_age, no_time, assembled_of}
use Rattle.cells.specs.Cell.{kinds, least_filled, least_timed, word_time, read_cell}

module _ (word rts : ℕ) where
  pub metric_empty : word % kinds < least_filled → encode_of (read_cell word) rts ≡ 0
  unfolding read_cell
  metric_empty h = rw (lt-ltb (word % kinds) least_filled h)

  pub metric_untimed : least_filled ≤ word % kinds → word % kinds < least_timed → encode_of (read_cell word) rts ≡ assembled_of (word % 4) no_time
  unfolding read_cell word_time
  metric_untimed h k = rw (le-ltb (word % kinds) least_filled h, lt-ltb (word % kinds) least_timed k)

  pub metric_timed : least_timed ≤ word % kinds → encode_of (read_cell word) rts ≡ assembled_of (word % 4) (ato_of_age (age_of rts (word / kinds % times)))
  unfolding read_cell word_time
  metric_timed k = rw (le-ltb (word % kinds) least_filled (omega arith), le-ltb (word % kinds) least_timed k)
