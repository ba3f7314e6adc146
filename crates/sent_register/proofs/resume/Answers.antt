use mathlib.Core.Path.{◌≡◌, sym, ◌∙◌}
use native.Mathlib.Omega.{arith}
use Rattle.window.specs.Number.{move_of}
use Rattle.window.proofs.Number.{ahead_is}
use Rattle.places.specs.Place.{highest_at}
use Rattle.place_window.proofs.Moving.{continued_by}
use Rattle.place_window.proofs.Opening.{continued_ahead}
use Rattle.sent_register.proofs.Calls.{of_empty}
use borrow.Author.Rules.{rules}
use Rattle.sent_register.proofs.resume.Goals.{After-move_of}
use Rattle.sent_register.proofs.resume.Goals as goal

-- how the number moves the window of the place
step_is : (c : After-move_of)
    → let args = c.args in
    c.move_of.result ≡ move_of (highest_at args.places.now args.p) args.number
step_is c = rw (← c.highest_at.ensures.value) c.move_of.ensures.value

pub open_window-requires : goal.open_window-requires
open_window-requires c =
    let args = c.args in
    let f = c.in-Ahead.f in
    let known = ahead_is (highest_at args.places.now args.p) args.number f (sym (step_is (goal.at.open_window-requires c).After-move_of) ∙ c.in-Ahead.is) in
    record {
      ready = c.requires.ready;
      some = omega (arith, known.1, c.newly.ensures.value);
      few = omega (arith, c.newly.ensures.value);
    }

pub returns-in-Ahead : goal.returns-in-Ahead
returns-in-Ahead c =
    record {
      after = rw (c.open_window.ensures.place, c.open_window.ensures.window, c.newly.ensures.value)
          (continued_ahead _ _ _ _ of_empty _ _ _ _ _ c.requires.ready _ (sym (step_is (goal.at.returns-in-Ahead c).After-move_of) ∙ c.in-Ahead.is));
    }

pub returns-in-Within : goal.returns-in-Within
returns-in-Within c =
    record { after = rw c.enter.ensures.content (continued_by _ _ _ _ _ _ _ _ _ (sym (step_is (goal.at.returns-in-Within c).After-move_of) ∙ c.in-Within.is)) }

pub returns-in-TooOld : goal.returns-in-TooOld
returns-in-TooOld c =
    record { after = continued_by _ _ _ _ _ _ _ _ _ (sym (step_is (goal.at.returns-in-TooOld c).After-move_of) ∙ c.in-TooOld.is) }
