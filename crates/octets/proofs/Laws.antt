-- What was put is got, and other octets stay. Assumes nothing.
use Prim.Native.Nat.{ℕ, zero, suc, ◌+◌, ◌≤◌, ◌<◌}
use mathlib.Core.Path.{◌≡◌, refl, ◌∙◌}
use mathlib.Core.Logic.{◌⊎◌, ⊎_elim}
use mathlib.Core.List.{List, [], ◌∷◌}
use native.Mathlib.Omega.{arith}
use native.Mathlib.Nat.{add-zero, add-suc, add_assoc, suc-add}
use lib.ListN.{length, get_or, set, length-set}
use lib.Seq.{sets, get_or-set_same, get_or-set_other}
use lib.Dec.{lit≤}
use Rattle.octets.specs.Octets.{be16, be32, octets16, octets32}

-- an octet outside the written ones stays
pub stays : (vs out : List ℕ) (at i : ℕ) → (i < at) ⊎ (at + length vs ≤ i) → get_or (sets out at vs) i 0 ≡ get_or out i 0
stays [] out at i h = refl
stays (v ∷ vs) out at i h =
    stays vs (set out at v) (suc at) i (⊎_elim (λ l. ◌⊎◌.inl (omega arith)) (λ l. ◌⊎◌.inr (omega arith)) h)
    ∙ get_or-set_other out at i v 0 (λ e. ⊎_elim (λ l. omega arith) (λ l. omega arith) h)

-- the octet j of those written stands at `at + j`
pub stands : (vs out : List ℕ) (at j : ℕ) → j < length vs → at + length vs ≤ length out → get_or (sets out at vs) (at + j) 0 ≡ get_or vs j 0
stands [] out at j l h = omega arith
stands (v ∷ vs) out at zero l h =
    rw (add-zero, stays vs (set out at v) (suc at) at (◌⊎◌.inl (omega arith)), get_or-set_same out at v 0 (omega arith))
stands (v ∷ vs) out at (suc j) l h =
    rw (add-suc, ← suc-add) (stands vs (set out at v) (suc at) j (omega arith) (omega (arith, length-set out at v)))

-- a number of 16 bits among the written octets is read back
pub stands16 : (vs out : List ℕ) (at j : ℕ) → j + 2 ≤ length vs → at + length vs ≤ length out → be16 (sets out at vs) (at + j) ≡ be16 vs j
unfolding be16
stands16 vs out at j l h = rw (add_assoc, stands vs out at j (omega arith) h, stands vs out at (j + 1) (omega arith) h)

module _ (out : List ℕ) (at : ℕ) where
  pub got16 : (n : ℕ) → at + 2 ≤ length out → be16 (sets out at (octets16 n)) at ≡ n
  unfolding be16
  got16 n room = rw add-zero at (stands16 (octets16 n) out at 0 (lit≤ tt) room) ∙ omega arith

  pub got32 : (n : ℕ) → at + 4 ≤ length out → be32 (sets out at (octets32 n)) at ≡ n
  unfolding be32 be16
  got32 n room =
      omega (arith, rw add-zero at (stands16 (octets32 n) out at 0 (lit≤ tt) room), stands16 (octets32 n) out at 2 (lit≤ tt) room)
