-- Which streams a store holds: the searches find what the rules say. Assumes nothing.
use Prim.Native.Nat.{ℕ, ◌/◌, ◌<◌, ◌≤◌}
use mathlib.Core.Path.{◌≡◌, refl, sym, ap, ◌∙◌}
use mathlib.Core.Bool.{true, false, false≢true, true≢false}
use mathlib.Core.List.{List}
use native.Mathlib.Omega.{arith}
use native.Mathlib.Decide.{ℕ_discrete, dec_lt}
use borrow.Author.Tests.{eq-eqb, ne_eqb, eqb-true}
use lib.ListN.{length, get_or, get_or-eq_default}
use Rattle.std.specs.Prelude.{Option, Some, None}
use Rattle.places.specs.declared.Stream.{Stream}
use Rattle.lists.proofs.First.{first_below, first_true, first_false, first_at, first_before, first_nothing}
use Rattle.lists.proofs.Cases.{never}
use Rattle.places.specs.Place.{held, highest_of, read_place, place_at, highest_at, is_stream, is_free, holds, free, find_of, free_of}
use Rattle.places.specs.Held.{HeldAt, Unheld, Vacant}
use Rattle.places.proofs.Places.{read_held, read_free, read_zero}

-- a held place's highest number is the one that its word keeps
highest_or_zero : Option Stream → ℕ
highest_or_zero None = 0
highest_or_zero (Some s) = s.highest

pub held_highest : (word x h : ℕ) → read_place word ≡ Some (record { ssrc = x; highest = h }) → highest_of word ≡ h
unfolding highest_or_zero
held_highest word x h e =
    elim (ℕ_discrete (word / held) 1) [
      | yes q ↦ ap highest_or_zero (sym (read_held word q) ∙ e)
      | no q ↦ let r = read_free word q in never (cc)
    ]

-- ---- the tests of the searches, in the words of the rules

module _ (ssrc : ℕ) where
  stream_held : (h : Option Stream) → is_stream ssrc h ≡ true → (high : ℕ) × (h ≡ Some (record { ssrc = ssrc; highest = high }))
  stream_held None t = absurd (false≢true t)
  stream_held (Some s) t = (s.highest, ap (λ (y : ℕ). Some (record { ssrc = y; highest = s.highest })) (eqb-true s.ssrc ssrc t))

  held_stream : (h : Option Stream) (high : ℕ) → h ≡ Some (record { ssrc = ssrc; highest = high }) → is_stream ssrc h ≡ true
  held_stream h high e = rw e (eq-eqb ssrc ssrc refl)

  other_stream : (h : Option Stream) → ((high : ℕ) → h ≡ Some (record { ssrc = ssrc; highest = high }) → ⊥) → is_stream ssrc h ≡ false
  other_stream None n = refl
  other_stream (Some s) n = ne_eqb s.ssrc ssrc (λ e. n s.highest (ap (λ (y : ℕ). Some (record { ssrc = y; highest = s.highest })) e))

free_is : (h : Option Stream) → is_free h ≡ true → h ≡ None
free_is None t = refl
free_is (Some s) t = absurd (false≢true t)

free_not : (h : Option Stream) → (h ≡ None → ⊥) → is_free h ≡ false
free_not None n = absurd (n refl)
free_not (Some s) n = refl

-- a place past the end is free
pub past_free : (places : List ℕ) (k : ℕ) → length places ≤ k → place_at places k ≡ None
past_free places k l = rw (get_or-eq_default places 0 l, read_zero)

held_there : (places : List ℕ) (k x h : ℕ) → place_at places k ≡ Some (record { ssrc = x; highest = h }) → k < length places
held_there places k x h e =
    elim (dec_lt k (length places)) [
      | yes l ↦ l
      | no l ↦ let f = past_free places k (omega arith) in never (cc)
    ]

module _ (places : List ℕ) (ssrc : ℕ) where
  -- a search for a stream
  pub found_held : (p : ℕ) → find_of places ssrc ≡ Some p → HeldAt places ssrc p (highest_at places p)
  found_held p f =
      let s = stream_held ssrc (place_at places p) (first_true (holds places ssrc) (length places) 0 p f) in
      let h = held_highest (get_or places p 0) ssrc s.0 s.1 in
      record {
        holds = s.1 ∙ ap (λ (x : ℕ). Some (record { ssrc = ssrc; highest = x })) (sym h);
        first =
            λ k g l e. true≢false (sym (held_stream ssrc (place_at places k) g e) ∙ first_before (holds places ssrc) (length places) 0 p k f (omega arith) l);
      }

  pub held_found : (p high : ℕ) → HeldAt places ssrc p high → (find_of places ssrc ≡ Some p) × (highest_at places p ≡ high)
  held_found p high K =
      let l = held_there places p ssrc high K.holds in (
        first_at (holds places ssrc) (length places) 0 p (omega arith) (omega arith) (held_stream ssrc (place_at places p) high K.holds)
            (λ k b a. other_stream ssrc (place_at places k) (λ h e. K.first k h b e)),
        held_highest (get_or places p 0) ssrc high K.holds,
      )

  pub lost_unheld : find_of places ssrc ≡ None → Unheld places ssrc
  lost_unheld f k h e =
      let l = held_there places k ssrc h e in
      true≢false (sym (held_stream ssrc (place_at places k) h e) ∙ first_false (holds places ssrc) (length places) 0 k f (omega arith) (omega arith))

  pub unheld_lost : Unheld places ssrc → find_of places ssrc ≡ None
  unheld_lost n = first_nothing (holds places ssrc) (length places) (λ k l. other_stream ssrc (place_at places k) (λ h e. n k h e))

module _ (places : List ℕ) where
  -- a search for a free place
  pub found_vacant : (k : ℕ) → free_of places ≡ Some k → Vacant places k
  found_vacant k f = record {
    there = let l = first_below (free places) (length places) 0 k f in omega arith;
    free = free_is (place_at places k) (first_true (free places) (length places) 0 k f);
  }

  pub full_none : free_of places ≡ None → (k : ℕ) → Vacant places k → ⊥
  full_none f k v =
      let l = v.there in
      true≢false (sym (ap is_free v.free) ∙ first_false (free places) (length places) 0 k f (omega arith) (omega arith))

  pub none_full : ((k : ℕ) → Vacant places k → ⊥) → free_of places ≡ None
  none_full n = first_nothing (free places) (length places) (λ k l. free_not (place_at places k) (λ e. n k (record { there = l; free = e })))
