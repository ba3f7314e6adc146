use mathlib.Core.List.{[], ◌∷◌}
use Rattle.std.specs.Prelude.{Result}
use Rattle.walk.specs.declared.ReportBlock.{ReportBlock}
use Rattle.refusal.specs.declared.Refusal.{Refusal}
use Rattle.ccfb_calls.proofs.Told.{told}
use Rattle.ccfb_reader.specs.Packets.{block_called}
use borrow.Author.Rules.{rules}
use Rattle.ccfb_reader.proofs.ccfb_block.Goals as goal

pub returns-in-Ok : goal.returns-in-Ok
returns-in-Ok c =
    let args = c.args in
    record {
      after = told (λ (x : Result ReportBlock Refusal). block_called x (args.ssrc.now ∷ args.begin.now ∷ args.count.now ∷ []))
          c.block-answer.ensures.value c.in-Ok.is;
    }

pub returns-in-Err : goal.returns-in-Err
returns-in-Err c =
    let args = c.args in
    record {
      after = rw c.number.ensures.value
          (told (λ (x : Result ReportBlock Refusal). block_called x (args.ssrc.now ∷ args.begin.now ∷ args.count.now ∷ []))
          c.block-answer.ensures.value c.in-Err.is);
    }
