use Rattle.arrivals.proofs.Carried.{carried}
use Rattle.arrivals.proofs.arrive.Goals as goal

pub returns : goal.returns
returns c =
    let a = c.args in
    record {
      after = rw (
        c.answer_of-answer.ensures.value,
        c.carry_out.ensures.places,
        c.carry_out.ensures.cells,
        c.filled_word-word.ensures.value,
        c.decide-d.ensures.value,
      )
          (carried a.places.now a.cells.now a.ssrc a.number a.mark a.time);
    }

pub carry_out-requires : goal.carry_out-requires
carry_out-requires c = record { fits = c.decide-d.ensures.fits }
