-- Numbers in a part of octets: in front of other octets, and behind the first ones. Assumes nothing.
use Prim.Native.Nat.{ℕ, ◌+◌, ◌≤◌}
use mathlib.Core.Path.{◌≡◌}
use mathlib.Core.List.{List, ◌++◌}
use native.Mathlib.Omega.{arith}
use native.Mathlib.Nat.{add_assoc}
use lib.ListN.{length, drop, get_or-append}
use lib.Seq.{get_or-drop}
use Rattle.octets.specs.Octets.{be16, be32}

module _ (s t : List ℕ) where
  pub front16 : (i : ℕ) → i + 2 ≤ length s → be16 (s ++ t) i ≡ be16 s i
  unfolding be16
  front16 i h = rw (get_or-append s t 0 i (omega arith), get_or-append s t 0 (i + 1) (omega arith))

  pub front32 : (i : ℕ) → i + 4 ≤ length s → be32 (s ++ t) i ≡ be32 s i
  unfolding be32
  front32 i h = rw (front16 i (omega arith), front16 (i + 2) (omega arith))

pub dropped16 : (s : List ℕ) (at i : ℕ) → be16 (drop at s) i ≡ be16 s (at + i)
unfolding be16
dropped16 s at i = rw (get_or-drop at s i 0, get_or-drop at s (i + 1) 0, add_assoc)
