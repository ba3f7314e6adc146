use mathlib.Core.Path.{sym}
use native.Mathlib.Omega.{arith}
use Rattle.places.proofs.Shape.{shaped_none, shaped_many, shaped_by}
use Rattle.places.proofs.is_shaped.Goals as goal

pub returns-then-n-eq0 : goal.returns-then-n-eq0
returns-then-n-eq0 c = record { value = sym (shaped_none c.args.places.now c.args.cells.now c.if-n-eq0.true) }

pub returns-then-n-gt-MOST_PLACES : goal.returns-then-n-gt-MOST_PLACES
returns-then-n-gt-MOST_PLACES c =
    record { value = sym (shaped_many c.args.places.now c.args.cells.now c.if-n-gt-MOST_PLACES.true) }

pub returns : goal.returns
returns c =
    record { value = sym (shaped_by c.args.places.now c.args.cells.now (omega arith) c.if-n-gt-MOST_PLACES.false) }
