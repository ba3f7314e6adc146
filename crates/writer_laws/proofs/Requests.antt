-- The checks of the requests, in the words of the rules. Assumes nothing.
use mathlib.Core.Path.{◌≡◌, refl, sym, ◌∙◌, subst}
use mathlib.Core.Logic.{◌≢◌}
use mathlib.Core.Bool.{Bool, true, false, cond, true≢false}
use mathlib.Core.List.{List, [], ◌∷◌, ◌++◌}
use Prim.Native.Nat.{ℕ, ◌-◌, ◌≤◌}
use native.Mathlib.Omega.{arith}
use native.Mathlib.Decide.{ℕ_discrete}
use lib.Dec.{eqb}
use borrow.Author.Tests.{eqb-true, leb-true, le-leb, eq-eqb}
use Rattle.lists.specs.All.{All}
use Rattle.std.specs.Prelude.{Option, Result, Some, None, Ok, Err}
use Rattle.lists.proofs.Cases.{never, split_le}
use Rattle.refusal.specs.declared.Refusal.{Refusal}
use Rattle.window.specs.Number.{distance_of}
use Rattle.ring.specs.Ring.{cells_of_a_place}
use Rattle.places.specs.Place.{find_of, highest_at}
use Rattle.places.proofs.Held.{lost_unheld, held_found, unheld_lost, found_held}
use Rattle.cutting.specs.Cutting.{DifferentStreams}
use Rattle.cutting.specs.declared.Request.{Request}
use Rattle.request_check.specs.Check.{named, in_window_of, check_of}
use Rattle.requests.specs.Requests.{and_then, checked}
use Rattle.request_check.proofs.Checks.{check_unheld, check_repeated, check_sound, check_outside, window_empty, window_in, window_out}
use Rattle.writer_laws.specs.Refused.{Named, here, there, InWindow, SoundAt, FaultIn, AllSound, none, more, FirstFault}
use Rattle.refusal.specs.declared.Refusal.TheVariants.{NotHeld, StreamRepeated, BadRange}

-- ---- the tests

named_is : (qs : List Request) (ssrc : ℕ) → Named ssrc qs → named qs ssrc ≡ true
unfolding named
named_is [] ssrc n = elim n [ ]
named_is (q ∷ qs) ssrc (here e) = rw (eq-eqb q.ssrc ssrc e)
named_is (q ∷ qs) ssrc (there n) = by (eqb q.ssrc ssrc) (named_is qs ssrc n)
  where
    by : (b : Bool) → named qs ssrc ≡ true → cond b true (named qs ssrc) ≡ true
    by true h = refl
    by false h = h

is_named : (qs : List Request) (ssrc : ℕ) → named qs ssrc ≡ true → Named ssrc qs
unfolding named
is_named [] ssrc e = never (cc)
is_named (q ∷ qs) ssrc e = by (eqb q.ssrc ssrc) refl e (is_named qs ssrc)
  where
    by : (b : Bool) → eqb q.ssrc ssrc ≡ b → cond b true (named qs ssrc) ≡ true → (named qs ssrc ≡ true → Named ssrc qs) → Named ssrc (q ∷ qs)
    by true f h k = here (eqb-true q.ssrc ssrc f)
    by false f h k = there (k h)

not_named : (qs : List Request) (ssrc : ℕ) → (Named ssrc qs → ⊥) → named qs ssrc ≡ false
not_named qs ssrc n = by (named qs ssrc) refl
  where
    by : (b : Bool) → named qs ssrc ≡ b → b ≡ false
    by true e = absurd (n (is_named qs ssrc e))
    by false e = refl

named_not : (qs : List Request) (ssrc : ℕ) → named qs ssrc ≡ false → Named ssrc qs → ⊥
named_not qs ssrc e n = true≢false (sym (named_is qs ssrc n) ∙ e)

module _ (highest begin count : ℕ) where
  window_is : InWindow highest begin count → in_window_of highest begin count ≡ true
  window_is w =
      elim (ℕ_discrete count 0) [
        | yes e ↦ window_empty highest begin count e ∙ eq-eqb begin highest (w.none e)
        | no e ↦
            let r = w.some (omega arith) in
            window_in highest begin count _ e refl r.0 ∙ le-leb (count - 1) (distance_of highest begin) r.1
      ]

  is_window : in_window_of highest begin count ≡ true → InWindow highest begin count
  is_window t =
      elim (ℕ_discrete count 0) [
        | yes e ↦ record { some = λ l. absurd (omega arith); none = λ z. eqb-true begin highest (sym (window_empty highest begin count e) ∙ t) }
        | no e ↦
            record {
              some = λ l. split_le cells_of_a_place (distance_of highest begin)
                  (λ h. absurd (true≢false (sym t ∙ window_out highest begin count _ e refl h)))
                  (λ h. (h, leb-true (count - 1) (distance_of highest begin) (sym (window_in highest begin count _ e refl h) ∙ t)));
              none = λ z. absurd (e z);
            }
      ]

  not_window : (InWindow highest begin count → ⊥) → in_window_of highest begin count ≡ false
  not_window n = by (in_window_of highest begin count) refl
    where
      by : (b : Bool) → in_window_of highest begin count ≡ b → b ≡ false
      by true e = absurd (n (is_window e))
      by false e = refl

  window_not : in_window_of highest begin count ≡ false → InWindow highest begin count → ⊥
  window_not e w = true≢false (sym (window_is w) ∙ e)

-- ---- a request

module _ (places : List ℕ) (earlier : List Request) (r : Request) where
  sound_check : (p : ℕ) → SoundAt places earlier r p → check_of places earlier r ≡ Ok p
  sound_check p s =
      let found = held_found places r.ssrc p s.highest s.held in
      sym (check_sound places earlier r _ refl p found.0 (not_named earlier r.ssrc s.new) _ (sym found.1) (window_is _ _ _ s.range))

  fault_check : (e : Refusal) → FaultIn places earlier r e → check_of places earlier r ≡ Err e
  fault_check e (FaultIn.not_held f) = sym (check_unheld places earlier r _ refl (unheld_lost places r.ssrc f))
  fault_check e (FaultIn.repeated p h f n) =
      sym (check_repeated places earlier r _ refl p (held_found places r.ssrc p h f).0 (named_is earlier r.ssrc n))
  fault_check e (FaultIn.bad_range p h f n w) =
      let found = held_found places r.ssrc p h f in
      sym (check_outside places earlier r _ refl p found.0 (not_named earlier r.ssrc n) _ (sym found.1) (not_window _ _ _ w))

  -- To show P of a request's check: it is sound, or has a fault.
  check_cases : (P : Result ℕ Refusal → Type 0) → ((p : ℕ) → SoundAt places earlier r p → P (Ok p))
      → ((e : Refusal) → FaultIn places earlier r e → P (Err e)) → P (check_of places earlier r)
  check_cases P f g = by_found (find_of places r.ssrc) refl
    where
      by_found : (x : Option ℕ) → find_of places r.ssrc ≡ x → P (check_of places earlier r)
      by_found None h = subst P (check_unheld places earlier r _ refl h) (g NotHeld (FaultIn.not_held (lost_unheld places r.ssrc h)))
      by_found (Some p) h = by (named earlier r.ssrc) refl (in_window_of (highest_at places p) r.begin r.count) refl
        where
          by : (a : Bool) → named earlier r.ssrc ≡ a → (b : Bool) → in_window_of (highest_at places p) r.begin r.count ≡ b → P (check_of places earlier r)
          by true u b v = subst P (check_repeated places earlier r _ refl p h u)
              (g StreamRepeated (FaultIn.repeated p (highest_at places p) (found_held places r.ssrc p h) (is_named earlier r.ssrc u)))
          by false u true v =
              subst P (check_sound places earlier r _ refl p h u _ refl v)
              (f p
              (record { highest = highest_at places p; held = found_held places r.ssrc p h; new = named_not earlier r.ssrc u; range = is_window _ _ _ v }))
          by false u false v =
              subst P (check_outside places earlier r _ refl p h u _ refl v)
              (g BadRange (FaultIn.bad_range p (highest_at places p) (found_held places r.ssrc p h) (named_not earlier r.ssrc u) (window_not _ _ _ v)))

-- ---- all requests

module _ (places : List ℕ) where
  pub sound_checked : (earlier rs : List Request) → AllSound places earlier rs → checked places earlier rs ≡ Ok tt
  unfolding checked
  sound_checked earlier [] none = refl
  sound_checked earlier (r ∷ rs) (more p s a) = rw (sound_check places earlier r p s) (sound_checked (earlier ++ r ∷ []) rs a)

  pub fault_checked : (earlier rs : List Request) (e : Refusal) → FirstFault places earlier rs e → checked places earlier rs ≡ Err e
  unfolding checked
  fault_checked earlier [] e f = elim f [ ]
  fault_checked earlier (r ∷ rs) e (FirstFault.here f) = rw (fault_check places earlier r e f)
  fault_checked earlier (r ∷ rs) e (FirstFault.later p s f) = rw (sound_check places earlier r p s) (fault_checked (earlier ++ r ∷ []) rs e f)

  -- To show P of the verdict: all are sound, or there is a first that is not.
  pub checked_cases : (earlier rs : List Request) (P : Result (Unit {0}) Refusal → Type 0) → (AllSound places earlier rs → P (Ok tt))
      → ((e : Refusal) → FirstFault places earlier rs e → P (Err e)) → P (checked places earlier rs)
  unfolding checked
  checked_cases earlier [] P f g = f none
  checked_cases earlier (r ∷ rs) P f g =
      check_cases places earlier r (λ x. P (and_then x (checked places (earlier ++ r ∷ []) rs)))
      (λ p s. checked_cases (earlier ++ r ∷ []) rs P (λ a. f (more p s a)) (λ e h. g e (FirstFault.later p s h)))
      (λ e h. g e (FirstFault.here h))

  -- ---- what holds of sound requests

  named_first : (qs : List Request) (r : Request) (y : ℕ) → Named y qs → Named y (qs ++ r ∷ [])
  named_first [] r y n = elim n [ ]
  named_first (q ∷ qs) r y (here e) = here e
  named_first (q ∷ qs) r y (there n) = there (named_first qs r y n)

  named_last : (qs : List Request) (r : Request) → Named r.ssrc (qs ++ r ∷ [])
  named_last [] r = here refl
  named_last (q ∷ qs) r = there (named_last qs r)

  apart : {earlier rs : List Request} (y : ℕ) → AllSound places earlier rs → Named y earlier → All (λ q. y ≢ q.ssrc) rs
  apart y none n = tt
  apart {earlier} y (more {r = r} p s a) n = (λ e. s.new (subst (λ (z : ℕ). Named z earlier) e n), apart y a (named_first earlier r y n))

  -- no stream is named twice
  pub sound_different : {earlier rs : List Request} → AllSound places earlier rs → DifferentStreams rs
  sound_different none = tt
  sound_different {earlier} (more {r = r} p s a) = (apart r.ssrc a (named_last earlier r), sound_different a)

  -- no range is longer than the window
  pub sound_counts : {earlier rs : List Request} → AllSound places earlier rs → All (λ r. r.count ≤ cells_of_a_place) rs
  sound_counts none = tt
  sound_counts (more {r = r} p s a) =
      (split_le r.count 0 (λ h. omega arith) (λ h. let w = s.range.some h in omega arith), sound_counts a)
