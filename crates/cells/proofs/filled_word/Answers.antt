use mathlib.Core.Path.{refl}
use Rattle.cells.proofs.filled_word.Goals as goal

pub returns-in-None : goal.returns-in-None
returns-in-None c = record { value = rw c.in-None.is refl }

pub returns-in-Some : goal.returns-in-Some
returns-in-Some c = record { value = rw c.in-Some.is refl }
