-- Numbers that are read of octets fit their bits. Assumes nothing.
use Prim.Native.Nat.{ℕ, zero, suc, ◌+◌, ◌^◌, ◌<◌}
use mathlib.Core.List.{List, [], ◌∷◌}
use native.Mathlib.Omega.{arith}
use lib.ListN.{get_or, drop}
use Rattle.octets.specs.Octets.{octet_values, be16, be32, Octets}

pub octet_at : (s : List ℕ) → Octets s → (i : ℕ) → get_or s i 0 < octet_values
octet_at [] h i = omega arith
octet_at (x ∷ s) h zero = h.0
octet_at (x ∷ s) h (suc i) = octet_at s h.1 i

pub octets_from : (n : ℕ) (s : List ℕ) → Octets s → Octets (drop n s)
octets_from zero s o = o
octets_from (suc n) [] o = tt
octets_from (suc n) (x ∷ s) o = octets_from n s o.1

module _ (s : List ℕ) (octets : Octets s) where
  pub less_16 : (i : ℕ) → be16 s i < 2 ^ 16
  unfolding be16
  less_16 i = omega (arith, octet_at s octets i, octet_at s octets (i + 1))

  pub less_32 : (i : ℕ) → be32 s i < 2 ^ 32
  unfolding be32
  less_32 i = omega (arith, less_16 i, less_16 (i + 2))
