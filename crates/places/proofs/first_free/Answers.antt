use Rattle.std.proofs.Common.{ℕ, ◌≡◌, refl, Bool, true, false, tests, rules}
use Rattle.std.proofs.lemmas.Iterator.{YieldsList-from_slice, IsFirst-from_position}
use Rattle.lists.proofs.Position.{first_is}
use Rattle.places.specs.Place.{read_place, is_free}
use Rattle.places.proofs.Places.{free_is, free_not}
use Rattle.places.proofs.first_free.Goals as goal

-- a word of a free place
abbrev is : ℕ → Bool
is word = is_free (read_place word)

pub returns : goal.returns
returns c =
    let places = c.args.places.now in
    record {
      value = first_is is places c.position.result
          (IsFirst-from_position _ _ c.position.result (λ w. is w ≡ true) (λ w. is w ≡ false) c.position.ensures.ran
          (YieldsList-from_slice places c.iter.ensures.rest) (λ x q k. free_is x.now (λ e. search (rules, tests))) (λ x q k. (refl, free_not x.now (search (rules, tests)))));
    }
