use mathlib.Core.Path.{refl}
use Rattle.places.proofs.highest_at.Goals as goal

pub returns : goal.returns
returns c = record { value = refl }
