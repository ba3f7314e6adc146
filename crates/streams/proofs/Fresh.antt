-- A fresh store reads as a machine with so many free places, and places of zeros are one. Assumes nothing.
use Prim.Native.Nat.{ℕ, zero, suc, ◌*◌, ◌<◌, ◌≤◌}
use mathlib.Core.Path.{◌≡◌, refl, ap, ◌∙◌}
use mathlib.Core.List.{List}
use lib.ListN.{length, get_or, replicate, length-replicate}
use Rattle.ring.specs.Ring.{cells_of_a_place}
use Rattle.places.specs.Place.{read_place}
use Rattle.places.specs.Shape.{most_places}
use Rattle.places.proofs.Places.{read_zero}
use Rattle.streams.specs.Model.{free, at, vacant}
use Rattle.streams.specs.Reading.{Store, Fresh, Meaning, Reads}

replicate_at : {A : Type 0} (a : A) (n k : ℕ) → get_or (replicate n a) k a ≡ a
replicate_at a zero k = refl
replicate_at a (suc n) zero = refl
replicate_at a (suc n) (suc k) = replicate_at a n k

pub vacant_at : {E : Type 0} (n k : ℕ) → at {E = E} (vacant n) k ≡ free
vacant_at n k = replicate_at free n k

pub fresh_reads : {E C : Type 0} (M : Meaning E C) (st : Store) → Fresh st → Reads M st (vacant (length st.places))
fresh_reads M st new = record {
  shape = new.shape;
  count = length-replicate (length st.places) free;
  each = λ k. rw (vacant_at (length st.places) k) (new.empty k);
}

-- places of zeros are a fresh store, whatever the cells hold
pub zeroed_fresh : (n : ℕ) (cells : List ℕ) → 0 < n → n ≤ most_places → length cells ≡ cells_of_a_place * n
    → Fresh (record { places = replicate n 0; cells = cells })
zeroed_fresh n cells l h e = record {
  shape = let s = length-replicate {A = ℕ} n 0 in record { some = rw s l; few = rw s h; sized = rw s e };
  empty = λ k. ap read_place (replicate_at 0 n k) ∙ read_zero;
}
