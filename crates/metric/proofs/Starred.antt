-- The cases at the edges hold: one statement over the list of them. Assumes nothing.
use Prim.Native.Nat.{ℕ, ◌-◌, ◌^◌}
use mathlib.Core.Path.{◌≡◌, refl}
use Rattle.lists.specs.All.{All}
use Rattle.metric.specs.Metric.{age_of, ato_of_age, ato_of, decode_of}
use Rattle.metric.specs.Starred.{CaseHolds, cases}
use Rattle.std.specs.Prelude.{Some}

pub starred : All CaseHolds cases
unfolding cases ato_of_age decode_of
starred = (at 0, (at 63, (at 64, (at 524096, (at 524097, (at (2 ^ 31 - 1), (at (2 ^ 31), (refl, (refl, (refl, (refl, tt)))))))))))
  where
    at : (a rts t : ℕ) → age_of rts t ≡ a → ato_of (Some t) rts ≡ ato_of_age a
    at a rts t e = rw e
