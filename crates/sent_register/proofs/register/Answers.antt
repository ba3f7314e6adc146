use Rattle.std.proofs.Common.{◌≡◌, true, ap, sym, ◌∙◌, Err, arith, rules}
use Rattle.refusal.specs.declared.Refusal.TheVariants.{NoFreePlace}
use Rattle.places.specs.Shape.{shaped, Ready}
use Rattle.places.specs.After.{store_after}
use Rattle.places.proofs.Shape.{is_shaped, ready_found, ready_free}
use Rattle.sent_register.proofs.Calls.{registered_held, registered_first, registered_full}
use Rattle.sent_register.proofs.register.Goals.{Else-not-is_shaped, In_ok-p}
use Rattle.sent_register.proofs.register.Goals as goal

-- past the first test the store is shaped
shaped-here : (c : Else-not-is_shaped) → shaped c.args.places.now c.args.cells.now ≡ true
shaped-here c = sym c.is_shaped.ensures.value ∙ c.if-not-is_shaped.false

-- the free place that was found is there
ready-open : (c : In_ok-p) → Ready c.args.places.now c.args.cells.now c.in_ok-p.p
ready-open c =
    let a = c.args in
    ready_free a.places.now a.cells.now _ (is_shaped a.places.now a.cells.now (sym c.is_shaped.ensures.value ∙ c.if-not-is_shaped.false))
    (sym c.first_free.ensures.value ∙ c.in_ok-p.ensures.ok_part)

pub resume-requires : goal.resume-requires
resume-requires c =
    let a = c.args in
    record {
      ready = ready_found a.places.now a.cells.now _ _ (is_shaped a.places.now a.cells.now (shaped-here (goal.at.resume-requires c).Else-not-is_shaped))
          (sym c.in-Some.ensures.value);
    }

pub returns-in-Some : goal.returns-in-Some
returns-in-Some c =
    record {
      after = c.resume.ensures.after
          ∙ registered_held _ _ _ _ (shaped-here (goal.at.returns-in-Some c).Else-not-is_shaped) _ (sym c.in-Some.ensures.value);
    }

pub open_window-requires : goal.open_window-requires
open_window-requires c =
    record {
      ready = ready-open (goal.at.open_window-requires c).In_ok-p;
      some = omega arith;
      few = omega arith;
    }

pub returns : goal.returns
returns c =
    record {
      after = rw (c.open_window.ensures.place, c.open_window.ensures.window)
          (registered_first _ _ _ _ (shaped-here (goal.at.returns c).Else-not-is_shaped) _ (sym c.find.ensures.value ∙ c.in_default.is)
          (sym c.first_free.ensures.value ∙ c.in_ok-p.ensures.ok_part) (ready-open (goal.at.returns c).In_ok-p));
    }

pub returns-in_err-p : goal.returns-in_err-p
returns-in_err-p c =
    let a = c.args in
    let refused : c.from_residual.result ≡ Err c.in_err-p.field-0.0 = search rules in
    let none = c.in_err-p.ensures.ok_part in
    let told = rw none at c.in_err-p.ensures.value in
    let why : c.in_err-p.field-0.0 ≡ NoFreePlace = cc in
    record {
      after = ap (λ r. store_after r a.places.now a.cells.now) (refused ∙ ap Err why)
          ∙ registered_full _ _ _ _ (shaped-here (goal.at.returns-in_err-p c).Else-not-is_shaped) (sym c.find.ensures.value ∙ c.in_default.is)
          (sym c.first_free.ensures.value ∙ none);
    }
