-- What a call makes of the stream that it names, and of no other, over any entries. Assumes nothing.
use Prim.Native.Nat.{ℕ, ◌+◌, ◌<◌}
use mathlib.Core.Path.{◌≡◌, refl, sym, ap, ◌∙◌}
use mathlib.Core.Bool.{true, false≢true}
use mathlib.Core.List.{List}
use native.Mathlib.Omega.{arith}
use native.Mathlib.Decide.{dec_le}
use borrow.Author.Tests.{le-leb, lt-leb, eq-eqb, eqb-true}
use lib.ListN.{length, set}
use Rattle.std.specs.Prelude.{Option, Some, None}
use Rattle.lists.proofs.First.{first_below, first_true}
use Rattle.refusal.specs.declared.Refusal.{Refusal}
use Rattle.ring.specs.Ring.{cells_of_a_place}
use Rattle.streams.specs.Full.{full_of, first_full}
use Rattle.streams.specs.Model.{Place, free, stream, names, is_vacant, at, find_in, vacant_in, found_in, stream_in}
use Rattle.streams.specs.Model.{vacant, noted_at, noted_in, noted, later_at, started_in, admitted_in, admitted}
use Rattle.streams.specs.Alone.{Once, Only, with_one, noted_by, Admitted, entered, kept}
use Rattle.streams.proofs.Numbers.{too_old_lem, not_too_old}
use Rattle.streams.proofs.Places.{named_is, vacant_is, later_old, later_in, noted_ahead, noted_old, noted_in_lem}
use Rattle.streams.proofs.Fresh.{vacant_at}
use Rattle.streams.proofs.Once.{names_one, stream_none, lost, set_once, set_other, set_same, set_none}
use Rattle.refusal.specs.declared.Refusal.TheVariants.{NoFreePlace, TooOld}

-- free places hold no stream
module _ (E : Type 0) (n : ℕ) where
  unnamed : (x k : ℕ) → names {E = E} x (at (vacant n) k) ≡ true → ⊥
  unnamed x k t = false≢true (sym (ap (names x) (vacant_at n k)) ∙ t)

  pub vacant_once : Once {E = E} (vacant n)
  vacant_once x p q s t = absurd (unnamed x p s)

  pub vacant_stream : (x : ℕ) → stream_in {E = E} (vacant n) x ≡ free
  vacant_stream x = stream_none (vacant n) x (unnamed x)

module _ {E : Type 0} where
  module _ (ps : List (Place E)) (once : Once ps) (x : ℕ) where
    same_only : Only ps x ps (stream_in ps x)
    same_only = record { once = once; own = refl; others = λ y n. refl }

    -- the place k gets P, which names no stream but x, and no other place named x
    module _ (k : ℕ) (there : k < length ps) (was : (y : ℕ) → names y (at ps k) ≡ true → y ≡ x) (lone : (i : ℕ) → names x (at ps i) ≡ true → i ≡ k) where
      own : (P : Place E) → ((y : ℕ) → names y P ≡ true → y ≡ x) → stream_in (set ps k P) x ≡ P
      own free only = set_none ps k free x there once only was lone refl
      own (stream z top es) only =
          set_same ps k (stream z top es) x there once only was lone (eq-eqb z x (only z (eq-eqb z z refl)))

      set_only : (P : Place E) → ((y : ℕ) → names y P ≡ true → y ≡ x) → Only ps x (set ps k P) P
      set_only P only = record {
        once = set_once ps k P x there once only was lone;
        own = own P only;
        others = λ y n. set_other ps k P x there once only was lone y n;
      }

    -- it is the place of the stream, or a free one where no place holds it
    pub found_only : (k : ℕ) → find_in ps x ≡ Some k → (P : Place E) → ((y : ℕ) → names y P ≡ true → y ≡ x) → Only ps x (set ps k P) P
    found_only k e =
        let t = first_true (λ (i : ℕ). names x (at ps i)) (length ps) 0 k e in
        let b = first_below (λ (i : ℕ). names x (at ps i)) (length ps) 0 k e in
        set_only k (omega arith) (λ y h. names_one (at ps k) y x h t) (λ i h. once x i k h t)

    vacant_only : (k : ℕ) → find_in ps x ≡ None → vacant_in ps ≡ Some k → (P : Place E) → ((y : ℕ) → names y P ≡ true → y ≡ x)
        → Only ps x (set ps k P) P
    vacant_only k e v =
        let b = first_below (λ (i : ℕ). is_vacant (at ps i)) (length ps) 0 k v in
        let n : at ps k ≡ free = vacant_is (at ps k) (first_true (λ (i : ℕ). is_vacant (at ps i)) (length ps) 0 k v) in
        set_only k (omega arith) (λ y h. absurd (false≢true (sym (ap (names y) n) ∙ h))) (λ i h. absurd (lost ps x e i h))

    -- the stream that a search found
    found_stream : (f : Option ℕ) → find_in ps x ≡ f → stream_in ps x ≡ found_in f ps
    found_stream f e = ap (λ (g : Option ℕ). found_in g ps) e

  module _ (entry : ℕ → E) where
    names_own : (x : ℕ) (P : Place E) (full y : ℕ) → names y (with_one entry x P full) ≡ true → y ≡ x
    names_own x P full y t = sym (eqb-true x y t)

    module _ (ps : List (Place E)) (once : Once ps) (x number : ℕ) where
      pub noted_only : Only ps x (noted entry ps x number) (noted_by entry x (stream_in ps x) number)
      noted_only = by_search (find_in ps x) refl
        where
          at_place : (k top : ℕ) (es : List E) → find_in ps x ≡ Some k → at ps k ≡ stream x top es
              → Only ps x (noted_at entry ps k x (full_of top number)) (noted_by entry x (stream x top es) number)
          at_place k top es e held =
              let same : Only ps x ps (stream x top es) = rw (← held, ← found_stream ps once x (Some k) e) (same_only ps once x) in
              elim (dec_le (full_of top number) top) [
                | yes l ↦
                    elim (dec_le (full_of top number + cells_of_a_place) top) [
                      | yes h ↦
                          rw (
                            le-leb (full_of top number) top l,
                            too_old_lem top (full_of top number) h,
                            noted_old entry ps k x (full_of top number) (rw held h),
                          )
                          same
                      | no h ↦
                          let i : top < full_of top number + cells_of_a_place = omega arith in
                          rw (
                            le-leb (full_of top number) top l,
                            not_too_old top (full_of top number) i,
                            noted_in_lem entry ps k x (full_of top number) (rw held l) (rw held i),
                            held,
                          )
                          (found_only ps once x k e (with_one entry x (stream x top es) (full_of top number)) (names_own x (stream x top es) (full_of top number)))
                    ]
                | no l ↦
                    let h : top < full_of top number = omega arith in
                    rw (lt-leb (full_of top number) top h, noted_ahead entry ps k x (full_of top number) (rw held h)) same
              ]

          by_search : (f : Option ℕ) → find_in ps x ≡ f → Only ps x (noted_in entry f ps x number) (noted_by entry x (found_in f ps) number)
          by_search (Some k) e =
              let n = named_is x (at ps k) (first_true (λ (i : ℕ). names x (at ps i)) (length ps) 0 k e) in
              rw n.1.1 (at_place k n.0 n.1.0 e n.1.1)
          by_search None e = rw (← found_stream ps once x None e) (same_only ps once x)

      module _ {A : Type 0} (accepted : A) (refused : Refusal → A) where
        pub admitted_as : Admitted entry accepted refused ps x number (admitted accepted refused entry ps x number)
        admitted_as = by_search (find_in ps x) refl
          where
            at_place : (k top : ℕ) (es : List E) → find_in ps x ≡ Some k → at ps k ≡ stream x top es
                → Admitted entry accepted refused ps x number (later_at accepted refused entry ps k x (full_of top number))
            at_place k top es e held =
                let s : stream_in ps x ≡ stream x top es = found_stream ps once x (Some k) e ∙ held in
                elim (dec_le (full_of top number + cells_of_a_place) top) [
                  | yes h ↦ rw (later_old entry ps k x (full_of top number) accepted refused (rw held h)) (kept TooOld)
                  | no h ↦
                      let i : top < full_of top number + cells_of_a_place = omega arith in
                      rw (later_in entry ps k x (full_of top number) accepted refused (rw held i), held)
                      (entered (set ps k (with_one entry x (stream x top es) (full_of top number)))
                      (rw s (found_only ps once x k e (with_one entry x (stream x top es) (full_of top number)) (names_own x (stream x top es) (full_of top number)))))
                ]

            opened : (f : Option ℕ) → vacant_in ps ≡ f → find_in ps x ≡ None → Admitted entry accepted refused ps x number (started_in accepted refused entry f ps x number)
            opened (Some k) v e =
                let n : at ps k ≡ free = vacant_is (at ps k) (first_true (λ (i : ℕ). is_vacant (at ps i)) (length ps) 0 k v) in
                rw n
                (entered (set ps k (with_one entry x free (first_full number)))
                (rw (found_stream ps once x None e)
                (vacant_only ps once x k e v (with_one entry x free (first_full number)) (names_own x free (first_full number)))))
            opened None v e = kept NoFreePlace

            by_search : (f : Option ℕ) → find_in ps x ≡ f → Admitted entry accepted refused ps x number (admitted_in accepted refused entry f ps x number)
            by_search (Some k) e =
                let n = named_is x (at ps k) (first_true (λ (i : ℕ). names x (at ps i)) (length ps) 0 k e) in
                rw n.1.1 (at_place k n.0 n.1.0 e n.1.1)
            by_search None e = opened (vacant_in ps) refl e
