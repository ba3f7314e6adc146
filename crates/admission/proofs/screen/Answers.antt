use Prim.Native.Nat.{◌*◌}
use mathlib.Core.Path.{◌≡◌, ◌∙◌}
use native.Mathlib.Omega.{arith}
use lib.Dec.{eqb}
use lib.ListN.{length}
use borrow.Author.Tests.{eq-eqb, ne_eqb}
use Rattle.ring.specs.Ring.{cells_of_a_place}
use Rattle.places.specs.Shape.{shaped}
use Rattle.places.proofs.Shape.{shaped_none, shaped_many, shaped_by}
use Rattle.admission.proofs.Decided.{screened_misshapen, screened_bad_mark, screened_sound}
use Rattle.admission.proofs.screen.Goals.{Else-n-gt-MOST_PLACES}
use Rattle.admission.proofs.screen.Goals as goal

-- with 1 to 16 places the store has its shape if the cells are as many as they should be
shape-here : (c : Else-n-gt-MOST_PLACES)
    → let a = c.args in
    shaped a.places.now a.cells.now ≡ eqb (length a.cells.now) (cells_of_a_place * length a.places.now)
shape-here c =
    let a = c.args in
    shaped_by a.places.now a.cells.now (omega arith) c.if-n-gt-MOST_PLACES.false

pub returns-then-n-eq0 : goal.returns-then-n-eq0
returns-then-n-eq0 c =
    let a = c.args in
    record { value = screened_misshapen a.places.now a.cells.now a.mark (shaped_none a.places.now a.cells.now c.if-n-eq0.true) }

pub returns-then-n-gt-MOST_PLACES : goal.returns-then-n-gt-MOST_PLACES
returns-then-n-gt-MOST_PLACES c =
    let a = c.args in
    record { value = screened_misshapen a.places.now a.cells.now a.mark (shaped_many a.places.now a.cells.now c.if-n-gt-MOST_PLACES.true) }

pub returns-then-not-sized : goal.returns-then-not-sized
returns-then-not-sized c =
    let a = c.args in
    record { value = screened_misshapen a.places.now a.cells.now a.mark (shape-here (goal.at.returns-then-not-sized c).Else-n-gt-MOST_PLACES ∙ ne_eqb _ _ c.if-not-sized.true) }

pub returns-then-mark-gt-CONGESTED : goal.returns-then-mark-gt-CONGESTED
returns-then-mark-gt-CONGESTED c =
    let a = c.args in
    record { value = screened_bad_mark a.places.now a.cells.now a.mark (shape-here (goal.at.returns-then-mark-gt-CONGESTED c).Else-n-gt-MOST_PLACES ∙ eq-eqb _ _ c.if-not-sized.false) c.if-mark-gt-CONGESTED.true }

pub returns-then-sized : goal.returns-then-sized
returns-then-sized c =
    let a = c.args in
    record { value = screened_sound a.places.now a.cells.now a.mark (shape-here (goal.at.returns-then-sized c).Else-n-gt-MOST_PLACES ∙ eq-eqb _ _ c.if-sized.true) c.if-mark-gt-CONGESTED.false }

pub returns : goal.returns
returns c =
    let a = c.args in
    record { value = screened_misshapen a.places.now a.cells.now a.mark (shape-here (goal.at.returns c).Else-n-gt-MOST_PLACES ∙ ne_eqb _ _ c.if-sized.false) }
