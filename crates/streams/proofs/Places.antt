-- The places of a store and those of the machine, side by side, over any entries. Assumes nothing.
use Prim.Native.Nat.{ℕ, ◌+◌, ◌<◌, ◌≤◌, max}
use mathlib.Core.Path.{◌≡◌, refl, sym, ap, ◌∙◌}
use mathlib.Core.Bool.{Bool, true, false, cond, false≢true}
use mathlib.Core.List.{List, [], ◌∷◌, ◌++◌}
use native.Mathlib.Omega.{arith}
use native.Mathlib.Decide.{ℕ_discrete}
use borrow.Author.Tests.{eqb-true, le-leb, lt-leb}
use lib.Dec.{leb}
use lib.ListN.{length, get_or, set, length-set}
use lib.Seq.{get_or-set_same, get_or-set_other}
use Rattle.lists.specs.First.{first_from}
use Rattle.lists.proofs.First.{first_cong, first_below}
use Rattle.refusal.specs.declared.Refusal.{Refusal}
use Rattle.ring.specs.Ring.{cells_of_a_place}
use Rattle.places.specs.Place.{read_place, place_at, is_stream, is_free, find_of, free_of}
use Rattle.std.specs.Prelude.{Option, Some}
use Rattle.places.specs.declared.Stream.{Stream}
use Rattle.place_window.specs.Window.{cell_at}
use Rattle.streams.specs.Model.{Place, free, stream, model_after, names, is_vacant, highest_in, entries_in, at, find_in, vacant_in, added_at, noted_at, later_at}
use Rattle.streams.specs.Reading.{Store, Meaning, ReadsAt, Reads}
use Rattle.streams.proofs.Numbers.{too_old_lem, not_too_old}
use Rattle.refusal.specs.declared.Refusal.TheVariants.{TooOld}

-- ---- what a search of the machine finds
module _ {E : Type 0} where
  pub named_is : (ssrc : ℕ) (P : Place E) → names ssrc P ≡ true → (top : ℕ) × ((es : List E) × (P ≡ stream ssrc top es))
  named_is ssrc free t = absurd (false≢true t)
  named_is ssrc (stream x top es) t = (top, (es, ap (λ (y : ℕ). stream y top es) (eqb-true x ssrc t)))

  pub vacant_is : (P : Place E) → is_vacant P ≡ true → P ≡ free
  vacant_is free t = refl
  vacant_is (stream x top es) t = absurd (false≢true t)

-- ---- the machine at a held place
untaken : {A : Type 0} (b : Bool) (x y : A) → b ≡ false → cond b x y ≡ y
untaken b x y e = rw e

module _ {E : Type 0} (entry : ℕ → E) (ps : List (Place E)) (k ssrc full : ℕ) where
  module _ {A : Type 0} (accepted : A) (refused : Refusal → A) where
    pub later_old : full + cells_of_a_place ≤ highest_in (at ps k) → later_at accepted refused entry ps k ssrc full ≡ model_after (refused TooOld) ps
    unfolding later_at
    later_old l = rw (too_old_lem (highest_in (at ps k)) full l)

    pub later_in : highest_in (at ps k) < full + cells_of_a_place
        → later_at accepted refused entry ps k ssrc full ≡ model_after accepted (added_at entry ps k ssrc full)
    unfolding later_at
    later_in l = rw (not_too_old (highest_in (at ps k)) full l)

  -- the stream with one more entry, by what the place holds and by the highest full number then
  pub added_to : (P : Place E) (top : ℕ) → at ps k ≡ P → max (highest_in P) full ≡ top
      → added_at entry ps k ssrc full ≡ set ps k (stream ssrc top (entries_in P ++ (entry full ∷ [])))
  added_to P top e h = rw e (ap (λ (x : ℕ). set ps k (stream ssrc x (entries_in P ++ (entry full ∷ [])))) h)

  pub noted_ahead : highest_in (at ps k) < full → noted_at entry ps k ssrc full ≡ ps
  unfolding noted_at
  noted_ahead l = untaken (leb full (highest_in (at ps k))) _ ps (lt-leb full (highest_in (at ps k)) l)

  pub noted_old : full + cells_of_a_place ≤ highest_in (at ps k) → noted_at entry ps k ssrc full ≡ ps
  unfolding noted_at
  noted_old l = simp (le-leb full (highest_in (at ps k)) (omega arith), too_old_lem (highest_in (at ps k)) full l) refl

  pub noted_in_lem : full ≤ highest_in (at ps k) → highest_in (at ps k) < full + cells_of_a_place → noted_at entry ps k ssrc full ≡ added_at entry ps k ssrc full
  unfolding noted_at
  noted_in_lem h l = simp (le-leb full (highest_in (at ps k)) h, not_too_old (highest_in (at ps k)) full l) refl

-- ---- a store that reads as the machine says
module _ {E C : Type 0} (M : Meaning E C) where
  module _ (cells : List ℕ) (k : ℕ) (h : Option Stream) where
    pub named : (ssrc : ℕ) (P : Place E) → ReadsAt M cells k h P → is_stream ssrc h ≡ names ssrc P
    named ssrc free r = rw r
    named ssrc (stream x top es) r = rw r.place

    freed : (P : Place E) → ReadsAt M cells k h P → is_free h ≡ is_vacant P
    freed free r = rw r
    freed (stream x top es) r = rw r.place

  -- what is read alike stays so where neither the place nor its cells change
  away : (cells cells' : List ℕ) (q : ℕ) (h h' : Option Stream) (P : Place E) → h' ≡ h → ((m : ℕ) → cell_at cells' q m ≡ cell_at cells q m)
      → ReadsAt M cells q h P → ReadsAt M cells' q h' P
  away cells cells' q h h' free e c r = e ∙ r
  away cells cells' q h h' (stream x top es) e c r = record {
    place = e ∙ r.place;
    window = λ n a b. ap M.read (c n) ∙ r.window n a b;
    begun = r.begun;
    highest = r.highest;
    lowest = r.lowest;
  }

  module _ (st : Store) (ps : List (Place E)) (R : Reads M st ps) where
    pub find_same : (ssrc : ℕ) → find_of st.places ssrc ≡ find_in ps ssrc
    find_same ssrc =
        rw R.count
        (first_cong (λ (k : ℕ). is_stream ssrc (place_at st.places k)) (λ (k : ℕ). names ssrc (at ps k)) (length st.places) 0
        (λ k. named st.cells k (place_at st.places k) ssrc (at ps k) (R.each k)))

    pub free_same : free_of st.places ≡ vacant_in ps
    free_same =
        rw R.count
        (first_cong (λ (k : ℕ). is_free (place_at st.places k)) (λ (k : ℕ). is_vacant (at ps k)) (length st.places) 0
        (λ k. freed st.cells k (place_at st.places k) (at ps k) (R.each k)))

    -- a place that a search of the machine found is one of the store
    pub there_in : (test : ℕ → Bool) (k : ℕ) → first_from test 0 (length ps) ≡ Some k → k < length st.places
    there_in test k e = let l = first_below test (length ps) 0 k e in let c = R.count in omega arith

    -- the place k changes, and no other
    pub replaced : (k : ℕ) (places' cells' : List ℕ) (P : Place E) → k < length st.places
        → length places' ≡ length st.places → length cells' ≡ length st.cells
        → ((q : ℕ) → (q ≡ k → ⊥) → get_or places' q 0 ≡ get_or st.places q 0)
        → ((q m : ℕ) → (q ≡ k → ⊥) → cell_at cells' q m ≡ cell_at st.cells q m)
        → ReadsAt M cells' k (place_at places' k) P
        → Reads M (record { places = places'; cells = cells' }) (set ps k P)
    replaced k places' cells' P there lp lc others cells here = record {
      shape = let s = R.shape in record { some = rw lp s.some; few = rw lp s.few; sized = rw (lp, lc) s.sized };
      count = length-set ps k P ∙ R.count ∙ sym lp;
      each = each;
    }
      where
        each : (q : ℕ) → ReadsAt M cells' q (place_at places' q) (at (set ps k P) q)
        each q =
            elim (ℕ_discrete q k) [
              | yes e ↦
                  let c = R.count in
                  let l : k < length ps = omega arith in
                  rw (e, get_or-set_same ps k P free l) here
              | no e ↦
                  rw (get_or-set_other ps k q P free e)
                  (away st.cells cells' q (place_at st.places q) (place_at places' q) (at ps q) (ap read_place (others q e)) (λ m. cells q m e) (R.each q))
            ]
