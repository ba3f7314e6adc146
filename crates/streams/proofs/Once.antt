-- The machine holds no SSRC in two places, and what it holds for a stream. Assumes nothing.
use Prim.Native.Nat.{ℕ, ◌<◌}
use mathlib.Core.Path.{◌≡◌, refl, sym, ap, ◌∙◌}
use mathlib.Core.Bool.{true, false, false≢true}
use mathlib.Core.List.{List}
use native.Mathlib.Omega.{arith}
use native.Mathlib.Decide.{ℕ_discrete, dec_lt}
use borrow.Author.Tests.{eqb-true}
use lib.ListN.{length, set, get_or-eq_default}
use lib.Seq.{get_or-set_same, get_or-set_other}
use Rattle.std.specs.Prelude.{Option, Some, None}
use Rattle.lists.proofs.First.{first_true, first_false}
use Rattle.streams.specs.Model.{Place, free, stream, names, at, find_in, found_in, stream_in}
use Rattle.streams.specs.Alone.{Once}

module _ {E : Type 0} where
  -- a place past the end names nothing
  named_there : (ps : List (Place E)) (x k : ℕ) → names x (at ps k) ≡ true → k < length ps
  named_there ps x k t =
      elim (dec_lt k (length ps)) [
        | yes l ↦ l
        | no l ↦
            let d : at ps k ≡ free = get_or-eq_default ps free (omega arith) in
            absurd (false≢true (sym (ap (names x) d) ∙ t))
      ]

  -- a place names one SSRC at most
  pub names_one : (P : Place E) (x y : ℕ) → names x P ≡ true → names y P ≡ true → x ≡ y
  names_one free x y s t = absurd (false≢true s)
  names_one (stream z top es) x y s t = sym (eqb-true z x s) ∙ eqb-true z y t

  module _ (ps : List (Place E)) (x : ℕ) where
    pub stream_none : ((k : ℕ) → names x (at ps k) ≡ true → ⊥) → stream_in ps x ≡ free
    stream_none n = by (find_in ps x) refl
      where
        by : (f : Option ℕ) → find_in ps x ≡ f → found_in f ps ≡ free
        by (Some k) e = absurd (n k (first_true (λ (i : ℕ). names x (at ps i)) (length ps) 0 k e))
        by None e = refl

    stream_at : Once ps → (k : ℕ) → names x (at ps k) ≡ true → stream_in ps x ≡ at ps k
    stream_at once k t = by (find_in ps x) refl
      where
        by : (f : Option ℕ) → find_in ps x ≡ f → found_in f ps ≡ at ps k
        by (Some j) e = ap (at ps) (once x j k (first_true (λ (i : ℕ). names x (at ps i)) (length ps) 0 j e) t)
        by None e =
            let l = named_there ps x k t in
            absurd (false≢true (sym (first_false (λ (i : ℕ). names x (at ps i)) (length ps) 0 k e (omega arith) (omega arith)) ∙ t))

    -- the search that finds nothing
    pub lost : find_in ps x ≡ None → (k : ℕ) → names x (at ps k) ≡ true → ⊥
    lost e k t =
        let l = named_there ps x k t in
        false≢true (sym (first_false (λ (i : ℕ). names x (at ps i)) (length ps) 0 k e (omega arith) (omega arith)) ∙ t)

  -- the place k gets P, which names no stream but x, and no other place named x
  module _ (ps : List (Place E)) (k : ℕ) (P : Place E) (x : ℕ) (there : k < length ps) (once : Once ps)
      (only : (y : ℕ) → names y P ≡ true → y ≡ x) (was : (y : ℕ) → names y (at ps k) ≡ true → y ≡ x) (lone : (i : ℕ) → names x (at ps i) ≡ true → i ≡ k) where
    here : at (set ps k P) k ≡ P
    here = get_or-set_same ps k P free there

    elsewhere : (i : ℕ) → (i ≡ k → ⊥) → at (set ps k P) i ≡ at ps i
    elsewhere i n = get_or-set_other ps k i P free n

    set_lone : (i : ℕ) → names x (at (set ps k P) i) ≡ true → i ≡ k
    set_lone i t = elim (ℕ_discrete i k) [ yes e ↦ e | no e ↦ lone i (rw (elsewhere i e) at t) ]

    named_here : (y : ℕ) → names y (at (set ps k P) k) ≡ true → y ≡ x
    named_here y t = only y (rw here at t)

    pub set_once : Once (set ps k P)
    set_once y i j s t =
        elim (ℕ_discrete y x) [
          | yes e ↦ set_lone i (rw e at s) ∙ sym (set_lone j (rw e at t))
          | no e ↦
              let a : i ≡ k → ⊥ = (λ q. e (named_here y (rw q at s))) in
              let b : j ≡ k → ⊥ = (λ q. e (named_here y (rw q at t))) in
              once y i j (rw (elsewhere i a) at s) (rw (elsewhere j b) at t)
        ]

    pub set_other : (y : ℕ) → (y ≡ x → ⊥) → stream_in (set ps k P) y ≡ stream_in ps y
    set_other y n = by (find_in ps y) refl
      where
        by : (f : Option ℕ) → find_in ps y ≡ f → stream_in (set ps k P) y ≡ found_in f ps
        by (Some j) e =
            let t = first_true (λ (i : ℕ). names y (at ps i)) (length ps) 0 j e in
            let a : j ≡ k → ⊥ = (λ q. n (was y (rw q at t))) in
            stream_at (set ps k P) y set_once j (rw (elsewhere j a) t) ∙ elsewhere j a
        by None e =
            stream_none (set ps k P) y
            (λ i t. elim (ℕ_discrete i k) [ yes q ↦ n (named_here y (rw q at t)) | no q ↦ lost ps y e i (rw (elsewhere i q) at t) ])

    pub set_same : names x P ≡ true → stream_in (set ps k P) x ≡ P
    set_same t = stream_at (set ps k P) x set_once k (rw here t) ∙ here

    pub set_none : names x P ≡ false → stream_in (set ps k P) x ≡ free
    set_none f = stream_none (set ps k P) x (λ i t. let q = set_lone i t in false≢true (sym f ∙ rw (q, here) at t))
