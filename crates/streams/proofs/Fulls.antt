-- The full numbers of sequence numbers that are counted on in a row, and the highest of them. Assumes nothing.
use Prim.Native.Nat.{ℕ, ◌%◌, ◌<◌, ◌≤◌, max}
use mathlib.Core.Path.{◌≡◌, refl}
use mathlib.Core.List.{List, [], ◌∷◌, map, Memᴰ}
use mathlib.Core.Logic.{◌⊎◌, inl, inr, ⊎_elim}
use native.Mathlib.Omega.{arith}
use native.Mathlib.Decide.{dec_le}
use Rattle.lists.specs.All.{All}
use Rattle.window.specs.Number.{sequence_numbers}
use Rattle.streams.specs.Full.{full_of, first_full, fulls_from, top_from, fulls_of, top_of}
use Rattle.streams.proofs.Numbers.{full_low}

-- ---- the low 16 bits of each are its sequence number
fulls_from_kept : (ns : List ℕ) (top : ℕ) → sequence_numbers ≤ top → All (λ (n : ℕ). n < sequence_numbers) ns
    → map (λ (f : ℕ). f % sequence_numbers) (fulls_from top ns) ≡ ns
unfolding fulls_from
fulls_from_kept [] top g h = refl
fulls_from_kept (n ∷ ns) top g h = rw (full_low top n g h.0, fulls_from_kept ns (max top (full_of top n)) (omega arith) h.1)

pub fulls_kept : (ns : List ℕ) → All (λ (n : ℕ). n < sequence_numbers) ns → map (λ (f : ℕ). f % sequence_numbers) (fulls_of ns) ≡ ns
fulls_kept [] h = refl
fulls_kept (n ∷ ns) h =
    let e : first_full n % sequence_numbers ≡ n = omega (arith, h.0) in
    rw (e, fulls_from_kept ns (first_full n) (omega arith) h.1)

-- ---- the highest is one of them
from_attained : (ns : List ℕ) (top : ℕ) → (top_from top ns ≡ top) ⊎ Memᴰ (top_from top ns) (fulls_from top ns)
unfolding fulls_from top_from
from_attained [] top = inl refl
from_attained (n ∷ ns) top = ⊎_elim here (λ h. inr (Memᴰ.tail h)) (from_attained ns (max top (full_of top n)))
  where
    here : top_from (max top (full_of top n)) ns ≡ max top (full_of top n)
        → (top_from (max top (full_of top n)) ns ≡ top)
        ⊎ Memᴰ (top_from (max top (full_of top n)) ns) (full_of top n ∷ fulls_from (max top (full_of top n)) ns)
    here h =
        elim (dec_le (full_of top n) top) [
          | yes q ↦ inl (omega arith)
          | no q ↦
              let e : top_from (max top (full_of top n)) ns ≡ full_of top n = omega arith in
              inr (Memᴰ.head e)
        ]

pub top_attained : (n : ℕ) (ns : List ℕ) → Memᴰ (top_of (n ∷ ns)) (fulls_of (n ∷ ns))
top_attained n ns = ⊎_elim (λ h. Memᴰ.head h) (λ h. Memᴰ.tail h) (from_attained ns (first_full n))

-- ---- and none is higher
top_on : (ns : List ℕ) (top : ℕ) → top ≤ top_from top ns
unfolding top_from
top_on [] top = omega arith
top_on (n ∷ ns) top = let l = top_on ns (max top (full_of top n)) in omega arith

from_highest : (ns : List ℕ) (top : ℕ) → All (λ (f : ℕ). f ≤ top_from top ns) (fulls_from top ns)
unfolding fulls_from top_from
from_highest [] top = tt
from_highest (n ∷ ns) top =
    let l = top_on ns (max top (full_of top n)) in
    (omega arith, from_highest ns (max top (full_of top n)))

pub top_highest : (ns : List ℕ) → All (λ (f : ℕ). f ≤ top_of ns) (fulls_of ns)
top_highest [] = tt
top_highest (n ∷ ns) = (top_on ns (first_full n), from_highest ns (first_full n))
