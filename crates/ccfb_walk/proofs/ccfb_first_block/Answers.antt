use mathlib.Core.List.{[], ◌∷◌}
use Rattle.std.specs.Prelude.{Result}
use Rattle.packet_header.specs.declared.Cursor.{Cursor}
use Rattle.refusal.specs.declared.Refusal.{Refusal}
use Rattle.ccfb_calls.proofs.Told.{told}
use Rattle.ccfb_walk.specs.Walk.{first_called}
use borrow.Author.Rules.{rules}
use Rattle.ccfb_walk.proofs.ccfb_first_block.Goals as goal

pub returns-in-Ok : goal.returns-in-Ok
returns-in-Ok c =
    let args = c.args in
    record {
      after = told (λ (x : Result Cursor Refusal). first_called x (args.at.now ∷ []))
          c.read_header-first.ensures.value c.in-Ok.is;
    }

pub returns-in-Err : goal.returns-in-Err
returns-in-Err c =
    let args = c.args in
    record {
      after = rw c.number.ensures.value
          (told (λ (x : Result Cursor Refusal). first_called x (args.at.now ∷ []))
          c.read_header-first.ensures.value c.in-Err.is);
    }
