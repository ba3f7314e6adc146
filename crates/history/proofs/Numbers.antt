-- The full numbers of accepted arrivals, and the highest, go by their sequence numbers alone. Assumes nothing.
use Prim.Native.Nat.{ℕ, max}
use mathlib.Core.Path.{◌≡◌, refl}
use mathlib.Core.List.{List, [], ◌∷◌, map}
use Rattle.streams.specs.Full.{full_of, first_full}
use Rattle.streams.specs.Full as full
use Rattle.history.specs.Calls.{Accepted}
use Rattle.history.specs.Meaning.{Entry, count_from, top_from, entries_of, top_of}

abbrev numbers_of : List Accepted → List ℕ
numbers_of l = map (λ (a : Accepted). a.number) l

top_from_numbers : (l : List Accepted) (top : ℕ) → top_from top l ≡ full.top_from top (numbers_of l)
unfolding top_from full.top_from
top_from_numbers [] top = refl
top_from_numbers (a ∷ l) top = top_from_numbers l (max top (full_of top a.number))

pub top_of_numbers : (l : List Accepted) → top_of l ≡ full.top_of (numbers_of l)
top_of_numbers [] = refl
top_of_numbers (a ∷ l) = top_from_numbers l (first_full a.number)

fulls_from_numbers : (l : List Accepted) (top : ℕ) → map (λ (e : Entry). e.full) (count_from top l) ≡ full.fulls_from top (numbers_of l)
unfolding count_from full.fulls_from
fulls_from_numbers [] top = refl
fulls_from_numbers (a ∷ l) top = rw (fulls_from_numbers l (max top (full_of top a.number)))

pub fulls_of_numbers : (l : List Accepted) → map (λ (e : Entry). e.full) (entries_of l) ≡ full.fulls_of (numbers_of l)
fulls_of_numbers [] = refl
fulls_of_numbers (a ∷ l) = rw (fulls_from_numbers l (first_full a.number))
