-- The check of a request, in each of its cases. Assumes nothing.
use mathlib.Core.Path.{◌≡◌, sym}
use mathlib.Core.Bool.{Bool, true, false, cond}
use mathlib.Core.List.{List}
use Prim.Native.Nat.{ℕ, ◌-◌, ◌≤◌, ◌<◌}
use lib.Dec.{eqb, leb}
use borrow.Author.Tests.{lt-ltb, le-ltb, eq-eqb, ne_eqb}
use Rattle.std.specs.Prelude.{Option, Some, None, Ok, Err}
use Rattle.lists.proofs.Cases.{never}
use Rattle.window.specs.Number.{distance_of}
use Rattle.ring.specs.Ring.{cells_of_a_place}
use Rattle.places.specs.Place.{find_of, highest_at}
use Rattle.cutting.specs.declared.Request.{Request}
use Rattle.request_check.specs.Check.{named, in_window_of, check_at, check_of}
use Rattle.refusal.specs.declared.Refusal.TheVariants.{NotHeld, StreamRepeated, BadRange}

pub window_empty : (highest s k : ℕ) → k ≡ 0 → in_window_of highest s k ≡ eqb s highest
unfolding in_window_of
window_empty highest s k e = rw (eq-eqb k 0 e)

pub window_in : (highest s k back : ℕ) → (k ≡ 0 → ⊥) → back ≡ distance_of highest s → back < cells_of_a_place → in_window_of highest s k ≡ leb (k - 1) back
unfolding in_window_of
window_in highest s k back n e l = rw (ne_eqb k 0 n, ← e, lt-ltb back cells_of_a_place l)

pub window_out : (highest s k back : ℕ) → (k ≡ 0 → ⊥) → back ≡ distance_of highest s → cells_of_a_place ≤ back → in_window_of highest s k ≡ false
unfolding in_window_of
window_out highest s k back n e l = rw (ne_eqb k 0 n, ← e, le-ltb back cells_of_a_place l)

module _ (places : List ℕ) (earlier : List Request) (r : Request) (f : Option ℕ) (e : f ≡ find_of places r.ssrc) where
  pub check_unheld : f ≡ None → Err NotHeld ≡ check_of places earlier r
  unfolding check_of
  check_unheld h = rw (← e, h)

  module _ (p : ℕ) (h : f ≡ Some p) where
    pub check_repeated : named earlier r.ssrc ≡ true → Err StreamRepeated ≡ check_of places earlier r
    unfolding check_of
    check_repeated t = rw (← e, h, t)

    module _ (t : named earlier r.ssrc ≡ false) (highest : ℕ) (g : highest ≡ highest_at places p) where
      pub check_sound : in_window_of highest r.begin r.count ≡ true → Ok p ≡ check_of places earlier r
      unfolding check_of
      check_sound w = rw (← e, h, t, ← g, w)

      pub check_outside : in_window_of highest r.begin r.count ≡ false → Err BadRange ≡ check_of places earlier r
      unfolding check_of
      check_outside w = rw (← e, h, t, ← g, w)

-- ---- the place that was found

module _ (places : List ℕ) (earlier : List Request) (r : Request) where
  found_by : (f : Option ℕ) (p : ℕ) → check_at f places earlier r ≡ Ok p → f ≡ Some p
  found_by None p e = never (cc)
  found_by (Some q) p e = by (named earlier r.ssrc) (in_window_of (highest_at places q) r.begin r.count) e
    where
      by : (a b : Bool) → cond a (Err StreamRepeated) (cond b (Ok q) (Err BadRange)) ≡ Ok p → Some q ≡ Some p
      by true b h = never (cc)
      by false true h = cc
      by false false h = never (cc)

  pub check_found : (p : ℕ) → Ok p ≡ check_of places earlier r → find_of places r.ssrc ≡ Some p
  unfolding check_of
  check_found p e = found_by (find_of places r.ssrc) p (sym e)
