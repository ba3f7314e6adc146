-- The digits of a number of two octets. Assumes nothing.
use Prim.Native.Nat.{ℕ, ◌+◌, ◌*◌, ◌/◌, ◌%◌, ◌<◌}
use mathlib.Core.Path.{◌≡◌}
use native.Mathlib.Omega.{arith}

pub digits : (x y : ℕ) → y < 256 → ((256 * x + y) / 256 ≡ x) × ((256 * x + y) % 256 ≡ y)
digits x y h = (omega arith, omega arith)
