-- Each call in some of its cases. Assumes nothing.
use Rattle.std.proofs.Common.{ℕ, ◌<◌, ◌≤◌, ◌≡◌, refl, sym, ◌∙◌, Bool, true, false, cond, List, length, get_or, Option, Some, None, Result, Ok, Err, arith}
use lib.ListN.{get_or-eq_default}
use native.Mathlib.Decide.{dec_lt}
use Rattle.refusal.specs.declared.Refusal.{Refusal}
use Rattle.refusal.specs.declared.Refusal.TheVariants.{BadStore, NotHeld}
use Rattle.places.specs.declared.Stream.{Stream}
use Rattle.places.specs.Place.{place_at}
use Rattle.places.specs.Shape.{Shaped, shaped}
use Rattle.places.proofs.Shape.{is_shaped}
use Rattle.places.proofs.Places.{read_zero}
use Rattle.lists.proofs.Cases.{never}
use Rattle.store.specs.Store.{answer_of, place_of}

module _ (places cells : List ℕ) (k : ℕ) where
  pub place_past : shaped places cells ≡ true → length places ≤ k → Err NotHeld ≡ place_of places cells k
  place_past s l = rw (s, get_or-eq_default places 0 l, read_zero)

  -- what a place that is answered has
  pub record There : Type 0 where
    pub below : k < length places
    pub sound : Shaped places cells

  pub place_there : (s : Stream) → place_of places cells k ≡ Ok s → There
  place_there s e = go (shaped places cells) refl
    where
      go : (b : Bool) → shaped places cells ≡ b → There
      go true h =
          record {
            below = elim (dec_lt k (length places)) [ yes l ↦ l | no n ↦ let f = place_past h (omega (arith, n)) in never (cc) ];
            sound = is_shaped places cells h;
          }
      go false h = let f : place_of places cells k ≡ Err BadStore = rw h refl in never (cc)
