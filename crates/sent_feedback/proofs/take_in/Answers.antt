use Rattle.std.proofs.Common.{◌≡◌, true, ap, sym, ◌∙◌, Err, rules}
use Rattle.places.specs.Shape.{shaped}
use Rattle.places.proofs.Shape.{is_shaped}
use Rattle.sent_feedback.specs.TakeIn.{cells_after}
use Rattle.sent_feedback.proofs.Answers.{taken_refused, accepted_sound, taken_accepted}
use Rattle.sent_feedback.proofs.take_in.Goals.{Else-not-is_shaped}
use Rattle.sent_feedback.proofs.take_in.Goals as goal

-- past the first test the store is shaped
shaped-here : (c : Else-not-is_shaped) → shaped c.args.places.now c.args.cells.now ≡ true
shaped-here c = sym c.is_shaped.ensures.value ∙ c.if-not-is_shaped.false

pub take_blocks-requires : goal.take_blocks-requires
take_blocks-requires c =
    let shape = shaped-here (goal.at.take_blocks-requires c).Else-not-is_shaped in
    record {
      sized = (is_shaped _ _ shape).sized;
      sound = accepted_sound _ _ _ _ (sym c.in_ok-summary.ensures.value);
    }

pub returns : goal.returns
returns c =
    record { after = ap (λ r. cells_after r c.take_blocks.new.cells) c.take_blocks.ensures.accepted ∙ taken_accepted _ _ _ _ (sym c.in_ok-summary.ensures.value) _ _ _ (shaped-here (goal.at.returns c).Else-not-is_shaped) c.take_blocks.ensures.content }

pub returns-in_err-summary : goal.returns-in_err-summary
returns-in_err-summary c =
    let refused : c.from_residual.result ≡ Err c.in_err-summary.field-0.0 = search rules in
    record {
      after = ap (λ r. cells_after r c.args.cells.now) refused
          ∙ taken_refused _ _ _ _ (shaped-here (goal.at.returns-in_err-summary c).Else-not-is_shaped) (sym c.in_err-summary.ensures.value);
    }
