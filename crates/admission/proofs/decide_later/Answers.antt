use mathlib.Core.Path.{◌≡◌, sym, ◌∙◌}
use Rattle.window.specs.Number.{move_of}
use Rattle.places.specs.Place.{highest_at}
use Rattle.admission.proofs.Decided.{later_by, late_empty, copy_filled}
use Rattle.admission.proofs.decide_later.Goals as goal

pub returns-in-Ahead : goal.returns-in-Ahead
returns-in-Ahead c =
    let a = c.args in
    let step : c.move_of-step.result ≡ move_of (highest_at a.places.now a.p) a.number
    = rw (← c.highest_at.ensures.value) c.move_of-step.ensures.value in
    record { value = later_by _ _ _ _ _ (sym c.in-Ahead.is ∙ step) }

pub returns-then-cells-cell_index-lt-LEAST_FILLED : goal.returns-then-cells-cell_index-lt-LEAST_FILLED
returns-then-cells-cell_index-lt-LEAST_FILLED c =
    let a = c.args in
    let step : c.move_of-step.result ≡ move_of (highest_at a.places.now a.p) a.number
    = rw (← c.highest_at.ensures.value) c.move_of-step.ensures.value in
    record { value = late_empty _ _ _ _ _ (sym c.in-Within.is ∙ step) (rw c.cell_index.ensures.value at c.if-cells-cell_index-lt-LEAST_FILLED.true) }

pub returns-else-cells-cell_index-lt-LEAST_FILLED : goal.returns-else-cells-cell_index-lt-LEAST_FILLED
returns-else-cells-cell_index-lt-LEAST_FILLED c =
    let a = c.args in
    let step : c.move_of-step.result ≡ move_of (highest_at a.places.now a.p) a.number
    = rw (← c.highest_at.ensures.value) c.move_of-step.ensures.value in
    record { value = copy_filled _ _ _ _ _ (sym c.in-Within.is ∙ step) (rw c.cell_index.ensures.value at c.if-cells-cell_index-lt-LEAST_FILLED.false) }

pub returns-in-TooOld : goal.returns-in-TooOld
returns-in-TooOld c =
    let a = c.args in
    let step : c.move_of-step.result ≡ move_of (highest_at a.places.now a.p) a.number
    = rw (← c.highest_at.ensures.value) c.move_of-step.ensures.value in
    record { value = later_by _ _ _ _ _ (sym c.in-TooOld.is ∙ step) }
