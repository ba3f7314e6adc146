use mathlib.Core.Path.{sym}
use Rattle.request_check.proofs.Checks.{window_empty, window_in, window_out}
use Rattle.request_check.proofs.in_window.Goals as goal

pub returns-then-count-eq0 : goal.returns-then-count-eq0
returns-then-count-eq0 c = record { value = sym (window_empty _ _ _ c.if-count-eq0.true) }

pub returns-then-back-lt-CELLS_OF_A_PLACE : goal.returns-then-back-lt-CELLS_OF_A_PLACE
returns-then-back-lt-CELLS_OF_A_PLACE c =
    record { value = sym (window_in _ _ _ _ c.if-count-eq0.false c.distance-back.ensures.value c.if-back-lt-CELLS_OF_A_PLACE.true) }

pub returns : goal.returns
returns c =
    record { value = sym (window_out _ _ _ _ c.if-count-eq0.false c.distance-back.ensures.value c.if-back-lt-CELLS_OF_A_PLACE.false) }
