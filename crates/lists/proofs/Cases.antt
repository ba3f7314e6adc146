-- Taking cases, and what never holds, for the proofs of every crate. Assumes nothing.
use Prim.Native.Nat.{ℕ, ◌<◌, ◌≤◌}
use mathlib.Core.Bool.{Bool, true, false}
use mathlib.Core.Path.{◌≡◌, refl}
use native.Mathlib.Omega.{arith}
use native.Mathlib.Decide.{ℕ_discrete, dec_le}

pub never : {P : Type 0} → ◌≡◌ {A = ℕ} 0 1 → P
never e = absurd (omega arith)

pub split_le : {P : Type 0} (a b : ℕ) → (a ≤ b → P) → (b < a → P) → P
split_le a b f g = elim (dec_le a b) [ yes h ↦ f h | no h ↦ g (omega arith) ]

pub split_eq : {P : Type 0} (a b : ℕ) → (a ≡ b → P) → ((a ≡ b → ⊥) → P) → P
split_eq a b f g = elim (ℕ_discrete a b) [ yes h ↦ f h | no h ↦ g h ]

pub split_test : {P : Type 0} (b : Bool) → (b ≡ true → P) → (b ≡ false → P) → P
split_test true f g = f refl
split_test false f g = g refl
