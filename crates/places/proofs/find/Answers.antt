use mathlib.Core.Path.{◌∙◌}
use Rattle.places.proofs.Places.{find_from_first}
use Rattle.places.proofs.find.Goals as goal

pub returns : goal.returns
returns c =
    let a = c.args in
    record { value = c.find_from.ensures.value ∙ find_from_first a.places.now a.ssrc }
