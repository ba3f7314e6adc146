use mathlib.Core.Path.{sym}
use Rattle.places.proofs.Places.{read_held, read_free}
use Rattle.places.proofs.read_place.Goals as goal

pub returns-then-word-eq1 : goal.returns-then-word-eq1
returns-then-word-eq1 c = record { value = sym (read_held _ c.if-word-eq1.true) }

pub returns : goal.returns
returns c = record { value = sym (read_free _ c.if-word-eq1.false) }
