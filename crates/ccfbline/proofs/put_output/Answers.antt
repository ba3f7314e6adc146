-- What is written for the store that took the pieces is what is printed for the file that they make.
use Rattle.std.proofs.Common.{arith}
use Rattle.ccfbline.proofs.Printing.{text_for, taken_into}
use Rattle.ccfbline.proofs.put_output.Goals as goal

pub returns : goal.returns
returns g c =
    record {
      after =
          text_for c.in_ok-intake.intake _ _ c.take_input.new.buf (omega arith)
          (taken_into _ _ _ _ _ c.fresh_places-places.ensures.value c.fresh_cells-cells.ensures.value c.in_ok-intake.ensures.after) _ _ _
          c.finish.ensures.after c.finish.ensures.bound;
    }
