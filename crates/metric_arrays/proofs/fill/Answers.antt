use Rattle.metric_arrays.specs.Arrays.{arrays}
use Rattle.metric_arrays.proofs.Turn.{decoded_none, decoded_next}
use Rattle.metric_arrays.proofs.fill.Goals as goal

pub loop-j-init : goal.loop-j-init
loop-j-init c = let a = c.args in decoded_none a.part.now (arrays a.cases.now a.marks.now a.offsets.now)

pub loop-j-preserved : goal.loop-j-preserved
loop-j-preserved c =
    let l = c.loop-j in
    decoded_next c.args.part.now _ (arrays l.cases l.marks l.offsets) _ _ _ _ _ l.invariant c.get16-m.ensures.value
    c.case_number.ensures.value c.mark_or_zero.ensures.value c.offset_or_zero.ensures.value
