use Rattle.std.proofs.Common.{◌≡◌, ap, sym, ◌∙◌, Err, rules}
use Rattle.refusal.specs.declared.Refusal.TheVariants.{NotHeld}
use native.Mathlib.Omega.{arith}
use Rattle.lists.proofs.First.{first_below}
use Rattle.request_check.proofs.Checks.{check_unheld, check_repeated, check_sound, check_outside}
use Rattle.request_check.proofs.check_request.Goals as goal

pub returns-in_err-p : goal.returns-in_err-p
returns-in_err-p c =
    let refused : c.from_residual.result ≡ Err c.in_err-p.field-0.0 = search rules in
    let none = c.in_err-p.ensures.ok_part in
    let told = rw none at c.in_err-p.ensures.value in
    let why : c.in_err-p.field-0.0 ≡ NotHeld = cc in
    record { value = refused ∙ ap Err why ∙ check_unheld _ _ _ _ c.find.ensures.value none }

pub returns-then-is_named : goal.returns-then-is_named
returns-then-is_named c =
    record { value = check_repeated _ _ _ _ c.find.ensures.value _ c.in_ok-p.ensures.ok_part (sym c.is_named.ensures.value ∙ c.if-is_named.true) }

pub highest_at-requires : goal.highest_at-requires
highest_at-requires c =
    record { there = omega (arith, first_below _ _ 0 _ (sym c.find.ensures.value ∙ c.in_ok-p.ensures.ok_part)) }

pub returns-then-in_window : goal.returns-then-in_window
returns-then-in_window c =
    record {
      value = check_sound _ _ _ _ c.find.ensures.value _ c.in_ok-p.ensures.ok_part (sym c.is_named.ensures.value ∙ c.if-is_named.false) _ c.highest_at.ensures.value
          (sym c.in_window.ensures.value ∙ c.if-in_window.true);
    }

pub returns : goal.returns
returns c =
    record {
      value = check_outside _ _ _ _ c.find.ensures.value _ c.in_ok-p.ensures.ok_part (sym c.is_named.ensures.value ∙ c.if-is_named.false) _ c.highest_at.ensures.value
          (sym c.in_window.ensures.value ∙ c.if-in_window.false);
    }
