use Rattle.line_gap.proofs.Puts.{gap_put}
use Rattle.line_gap.proofs.put_gap.Goals as goal

pub returns : goal.returns
returns c =
    let a = c.args in
    record {
      after = gap_put a.out.now _ _ _ _ _ a.at _ _ _ _ a.gap c.put_text.ensures.content c.put_digit-after_ten_thousands.ensures.after
          c.put_digit-after_thousands.ensures.after c.put_digit-after_hundreds.ensures.after c.put_digit-end.ensures.after;
    }
