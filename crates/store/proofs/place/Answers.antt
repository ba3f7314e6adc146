use Rattle.std.proofs.Common.{◌≡◌, sym, ◌∙◌}
use Rattle.store.proofs.Calls.{place_past}
use Rattle.store.proofs.place.Goals as goal

pub returns-then-places-k : goal.returns-then-places-k
returns-then-places-k c = record { value = place_past _ _ _ (sym c.is_shaped.ensures.value ∙ c.if-not-is_shaped.false) c.if-places-k.true }
