use mathlib.Core.List.{[], ◌∷◌}
use Rattle.std.specs.Prelude.{Result}
use Rattle.reader.specs.declared.Summary.{Summary}
use Rattle.refusal.specs.declared.Refusal.{Refusal}
use Rattle.ccfb_calls.proofs.Told.{told}
use Rattle.ccfb_reader.specs.Packets.{read_called}
use borrow.Author.Rules.{rules}
use Rattle.ccfb_reader.proofs.ccfb_read.Goals as goal

pub returns-in-Ok : goal.returns-in-Ok
returns-in-Ok c =
    let args = c.args in
    record {
      after = told (λ (x : Result Summary Refusal). read_called x (args.sender.now ∷ args.rts.now ∷ args.blocks.now ∷ []))
          c.read-answer.ensures.value c.in-Ok.is;
    }

pub returns-in-Err : goal.returns-in-Err
returns-in-Err c =
    let args = c.args in
    record {
      after = rw c.number.ensures.value
          (told (λ (x : Result Summary Refusal). read_called x (args.sender.now ∷ args.rts.now ∷ args.blocks.now ∷ []))
          c.read-answer.ensures.value c.in-Err.is);
    }
