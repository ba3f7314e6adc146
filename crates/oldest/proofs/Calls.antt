-- The call is the call that reads place k, and then a search of its window. Assumes nothing.
use Rattle.std.proofs.Common.{ℕ, ◌≡◌, refl, Bool, true, false, cond, List, Option, Some, None, Result, Ok, Err}
use Rattle.refusal.specs.declared.Refusal.{Refusal}
use Rattle.refusal.specs.declared.Refusal.TheVariants.{BadStore}
use Rattle.places.specs.declared.Stream.{Stream}
use Rattle.places.specs.Place.{place_at}
use Rattle.places.specs.Shape.{shaped}
use Rattle.store.specs.Store.{answer_of, place_of}
use Rattle.oldest.specs.Oldest.{oldest_in, oldest_at, oldest_of}

module _ (places cells : List ℕ) (k : ℕ) where
  -- the answer where the call that reads the place answers so
  abbrev pub told : Result Stream Refusal → Result ℕ Refusal
  told (Ok s) = Ok (oldest_in cells k s.highest)
  told (Err e) = Err e

  pub oldest_told : told (place_of places cells k) ≡ oldest_of places cells k
  oldest_told = go (shaped places cells) (place_at places k)
    where
      go : (b : Bool) (o : Option Stream) → told (cond b (answer_of o) (Err BadStore)) ≡ cond b (oldest_at cells k o) (Err BadStore)
      go true (Some s) = refl
      go true None = refl
      go false o = refl
