use mathlib.Core.Path.{refl}
use Rattle.metric_encode.proofs.encode.Goals as goal

pub returns-in-None : goal.returns-in-None
returns-in-None c = record { value = rw c.in-None.is refl }

pub returns-in-Some : goal.returns-in-Some
returns-in-Some c =
    record { value = rw (c.in-Some.is, c.assembled.ensures.value, c.ato.ensures.value) refl }
