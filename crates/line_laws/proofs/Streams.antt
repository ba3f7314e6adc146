-- Rule "Newest four": where no SSRC is in two places, the requests of the program are sound. Assumes nothing.
use Prim.Native.Nat.{ℕ, zero, suc, ◌+◌, ◌-◌, ◌<◌}
use mathlib.Core.Path.{◌≡◌, refl, sym, ap, ◌∙◌}
use mathlib.Core.Bool.{true, false}
use mathlib.Core.List.{List, [], ◌∷◌, ◌++◌, append-nil}
use native.Mathlib.Omega.{arith}
use borrow.Author.Tests.{lt-ltb, eq-eqb, ne_eqb}
use lib.ListN.{length, get_or, take, drop, length-take}
use lib.Seq.{drop-cons, take-suc, drop-length, get_or-take}
use Rattle.lists.proofs.First.{first_at}
use Rattle.window.specs.Number.{distance_of, sequence_numbers}
use Rattle.ring.specs.Ring.{cells_of_a_place}
use Rattle.places.specs.Place.{read_place, place_at, highest_at, is_stream, holds, find_of}
use Rattle.std.specs.Prelude.{Option, Some, None, Ok}
use Rattle.places.specs.declared.Stream.{Stream}
use Rattle.places.proofs.Held.{held_highest}
use Rattle.cutting.specs.declared.Request.{Request}
use Rattle.line_report.specs.Report.{newest_numbers}
use Rattle.line_newest.specs.Newest.{newest_four, asked_of, newest}
use Rattle.request_check.specs.Check as check
use Rattle.requests.specs.Requests.{checked}

-- ---- lists of requests

newest_append : (ws vs : List ℕ) → newest (ws ++ vs) ≡ newest ws ++ newest vs
unfolding newest
newest_append [] vs = refl
newest_append (w ∷ ws) vs = go (read_place w) (newest_append ws vs)
  where
    go : (h : Option Stream) → newest (ws ++ vs) ≡ newest ws ++ newest vs → asked_of h (newest (ws ++ vs)) ≡ asked_of h (newest ws) ++ newest vs
    go None e = e
    go (Some s) e = ap (λ (l : List Request). newest_four s.ssrc s.highest ∷ l) e

-- a stream that no place of a list holds is named by no request of it
not_named : (ws : List ℕ) (ssrc : ℕ) → ((j : ℕ) → j < length ws → is_stream ssrc (read_place (get_or ws j 0)) ≡ false)
    → check.named (newest ws) ssrc ≡ false
unfolding newest check.named
not_named [] ssrc none = refl
not_named (w ∷ ws) ssrc none = go (read_place w) (none 0 (omega arith)) (not_named ws ssrc (λ j l. none (suc j) (omega arith)))
  where
    go : (h : Option Stream) → is_stream ssrc h ≡ false → check.named (newest ws) ssrc ≡ false → check.named (asked_of h (newest ws)) ssrc ≡ false
    go None e f = f
    go (Some s) e f = rw (e, f)

-- ---- the window

newest_in_window : (highest : ℕ) → highest < sequence_numbers → check.in_window_of highest (distance_of highest (newest_numbers - 1)) newest_numbers ≡ true
unfolding check.in_window_of
newest_in_window highest h =
    let d : distance_of highest (distance_of highest (newest_numbers - 1)) ≡ 3 = omega arith in
    simp (d, lt-ltb 3 cells_of_a_place (omega arith))

module _ (places : List ℕ) (once : (ssrc p q h g : ℕ) → place_at places p ≡ Some (record { ssrc = ssrc; highest = h }) → place_at places q ≡ Some (record { ssrc = ssrc; highest = g }) → p ≡ q) where
  -- another place holds another stream
  elsewhere : (i j ssrc highest : ℕ) → place_at places i ≡ Some (record { ssrc = ssrc; highest = highest }) → (j ≡ i → ⊥) → is_stream ssrc (place_at places j) ≡ false
  elsewhere i j ssrc highest e n = go (place_at places j) refl
    where
      go : (h : Option Stream) → place_at places j ≡ h → is_stream ssrc h ≡ false
      go None f = refl
      go (Some s) f = ne_eqb s.ssrc ssrc (λ z. n (once ssrc j i s.highest highest (f ∙ ap (λ (y : ℕ). Some (record { ssrc = y; highest = s.highest })) z) e))

  module _ (i ssrc highest : ℕ) (there : i < length places) (here : place_at places i ≡ Some (record { ssrc = ssrc; highest = highest })) where
    found_here : find_of places ssrc ≡ Some i
    found_here =
        first_at (holds places ssrc) (length places) 0 i (omega arith) (omega arith) (ap (is_stream ssrc) here ∙ eq-eqb ssrc ssrc refl)
        (λ k l g. elsewhere i k ssrc highest here (λ z. omega arith))

    sound_here : check.check_of places (newest (take i places)) (newest_four ssrc highest) ≡ Ok i
    unfolding check.check_of
    sound_here =
        let top : highest_at places i ≡ highest = held_highest (get_or places i 0) ssrc highest here in
        let low : highest_at places i < sequence_numbers = omega arith in
        let none : check.named (newest (take i places)) ssrc ≡ false =
        not_named (take i places) ssrc (λ j l. ap (λ (w : ℕ). is_stream ssrc (read_place w)) (get_or-take i places j 0 (omega (arith, length-take i places)))
        ∙ elsewhere i j ssrc highest here (λ z. omega (arith, length-take i places))) in
        rw (found_here, none, top, newest_in_window highest (omega arith))

  -- the requests of one more place
  one_more : (i : ℕ) → i < length places → newest (take (suc i) places) ≡ newest (take i places) ++ asked_of (place_at places i) []
  unfolding newest
  one_more i l = ap newest (take-suc places i 0 l) ∙ newest_append (take i places) (get_or places i 0 ∷ [])

  sound_from : (n i : ℕ) → i + n ≡ length places → checked places (newest (take i places)) (newest (drop i places)) ≡ Ok tt
  unfolding newest checked
  sound_from zero i e =
      let d : drop i places ≡ [] = ap (λ (k : ℕ). drop k places) (plain i e) ∙ drop-length places in
      rw d
    where
      plain : (i : ℕ) → i + 0 ≡ length places → i ≡ length places
      plain i e = omega arith
  sound_from (suc n) i e =
      rw (drop-cons places i 0 (omega arith))
      (go (place_at places i) refl (sound_from n (suc i) (omega arith)))
    where
      go : (h : Option Stream) → place_at places i ≡ h → checked places (newest (take (suc i) places)) (newest (drop (suc i) places)) ≡ Ok tt
          → checked places (newest (take i places)) (asked_of h (newest (drop (suc i) places))) ≡ Ok tt
      go None f r =
          let t : newest (take (suc i) places) ≡ newest (take i places) = one_more i (omega arith)
          ∙ ap (λ (h : Option Stream). newest (take i places) ++ asked_of h []) f ∙ append-nil (newest (take i places)) in
          ap (λ (l : List Request). checked places l (newest (drop (suc i) places))) (sym t) ∙ r
      go (Some s) f r =
          let t : newest (take (suc i) places) ≡ newest (take i places) ++ newest_four s.ssrc s.highest ∷ [] = one_more i (omega arith)
          ∙ ap (λ (h : Option Stream). newest (take i places) ++ asked_of h []) f in
          rw (sound_here i s.ssrc s.highest (omega arith) f) (ap (λ (l : List Request). checked places l (newest (drop (suc i) places))) (sym t) ∙ r)

  -- the writer finds no fault in them
  pub sound_requests : checked places [] (newest places) ≡ Ok tt
  unfolding newest
  sound_requests = sound_from (length places) 0 (omega arith)
