use Rattle.std.proofs.Common.{ap, Result}
use Rattle.metric.specs.Metric.{time_of}
use Rattle.places.specs.After.{StoreAfter}
use Rattle.admission.specs.declared.ArrivalKind.{ArrivalKind}
use Rattle.refusal.specs.declared.Refusal.{Refusal}
use Rattle.arrivals.proofs.Carried.{carried}
use Rattle.ccfb_arrivals.specs.Arrivals.{arrive_called}
use Rattle.ccfb_arrivals.proofs.ccfb_arrive.Goals as goal

pub returns : goal.returns
returns c =
    let a = c.args in
    record {
      after = rw (
        c.hand_over-refused.ensures.answer,
        c.hand_over-refused.ensures.behind,
        c.carry_out.ensures.places,
        c.carry_out.ensures.cells,
        c.filled_word-word.ensures.value,
        c.time_of.ensures.value,
        c.decide-decision.ensures.value,
      )
          (ap (λ (o : StoreAfter (Result ArrivalKind Refusal)). arrive_called o a.arrival.now)
          (carried a.places.now a.cells.now a.ssrc a.number a.mark (time_of a.time_known a.time)));
    }
