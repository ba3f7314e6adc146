use mathlib.Core.Path.{◌≡◌, sym, ap, ◌∙◌}
use Rattle.metric_arrays.specs.Arrays.{Arrays, ArraysAfter, arrays_after}
use Rattle.std.specs.Prelude.{Result}
use Rattle.refusal.specs.declared.Refusal.{Refusal}
use Rattle.ccfb_metric_arrays.specs.Decoding.{decode_called_by, decode_called}
use borrow.Author.Rules.{rules}
use Rattle.ccfb_metric_arrays.proofs.ccfb_decode_metrics.Goals as goal

-- what is handed on of an answer whose variant the match told
handed : (o : ArraysAfter) (r variant : Result (Unit {0}) Refusal) (a : Arrays) → arrays_after r a ≡ o → r ≡ variant → decode_called_by variant a ≡ decode_called o
handed o r variant a p q = ap (λ (x : Result (Unit {0}) Refusal). decode_called_by x a) (sym q) ∙ ap decode_called p

pub returns-in-Ok : goal.returns-in-Ok
returns-in-Ok c = record { after = handed _ _ _ _ c.decode_metrics-answer.ensures.after c.in-Ok.is }

pub returns-in-Err : goal.returns-in-Err
returns-in-Err c =
    record { after = rw c.number.ensures.value (handed _ _ _ _ c.decode_metrics-answer.ensures.after c.in-Err.is) }
