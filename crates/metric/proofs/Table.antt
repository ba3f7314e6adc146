-- Each row of the table of arrival time offsets, as a theorem. Assumes nothing.
use Prim.Native.Nat.{ℕ, ◌/◌, ◌^◌, ◌<◌, ◌≤◌}
use mathlib.Core.Path.{◌≡◌, refl}
use native.Mathlib.Omega.{arith}
use borrow.Author.Tests.{lt-ltb, le-ltb, lt-leb, le-leb}
use Rattle.metric.specs.Metric.{ato_of_age, ato_of}
use Rattle.std.specs.Prelude.{None}

pub unknown_row : (rts : ℕ) → ato_of None rts ≡ 0x1FFF
unknown_row rts = refl

pub after_row : (age : ℕ) → 2 ^ 31 ≤ age → ato_of_age age ≡ 0x1FFF
unfolding ato_of_age
after_row age h = rw (le-leb (2 ^ 31) age h)

pub over_row : (age : ℕ) → 524096 < age → age < 2 ^ 31 → ato_of_age age ≡ 0x1FFE
unfolding ato_of_age
over_row age l h = rw (lt-leb (2 ^ 31) age h, lt-ltb 524096 age l)

pub else_row : (age : ℕ) → age ≤ 524096 → ato_of_age age ≡ age / 64
unfolding ato_of_age
else_row age l = rw (lt-leb (2 ^ 31) age (omega arith), le-ltb 524096 age l)
