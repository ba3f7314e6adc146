use Rattle.std.proofs.Common.{◌≡◌, refl, sym, ◌∙◌, Option, Some, None, arith}
use Rattle.std.specs.Option.{ok_or}
use Rattle.refusal.specs.declared.Refusal.TheVariants.{NotRegistered}
use Rattle.sent_word.specs.declared.Status.{Status}
use Rattle.sent_status.specs.Status.{answer_of}
use Rattle.sent_status.proofs.Calls.{status_past, status_within}
use Rattle.sent_status.proofs.status_at.Goals as goal

answered : (o : Option Status) → ok_or o NotRegistered ≡ answer_of o
answered (Some s) = refl
answered None = refl

pub returns-then-b-ge-CELLS_OF_A_PLACE : goal.returns-then-b-ge-CELLS_OF_A_PLACE
returns-then-b-ge-CELLS_OF_A_PLACE c =
    record { value = sym (status_past _ _ _ _ (omega (arith, c.if-b-ge-CELLS_OF_A_PLACE.true))) }

pub returns : goal.returns
returns c =
    record {
      value = c.ok_or.ensures.value ∙ answered _
          ∙ rw (c.read_word.ensures.value, c.cell_index-at.ensures.value) (sym (status_within _ _ _ _ c.if-b-ge-CELLS_OF_A_PLACE.false));
    }
