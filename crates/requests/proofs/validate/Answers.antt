use Rattle.std.proofs.Common.{◌≡◌, ◌<◌, length, refl, sym, ◌∙◌, Err, arith, rules}
use Rattle.cutting.proofs.Requests.{stream_at}
use Rattle.request_check.proofs.Checks.{check_found}
use Rattle.requests.proofs.Turns.{found_more, checked_on, checked_fault, checked_none, no_fault}
use Rattle.requests.proofs.validate.Goals as goal

pub returns-in_err-found : goal.returns-in_err-found
returns-in_err-found c =
    let a = c.args in
    let e = c.in_err-found.field-0.0 in
    let refused : c.from_residual.result ≡ Err e = search rules in
    record {
      answer = record {
        answer = refused ∙ checked_fault a.requests.now a.places.now c.loop-i.i (omega arith) _
            c.in_err-found.ensures.value _ c.loop-i.invariant.checked_on e refl;
        places_found = λ z. absurd (no_fault e (sym refused ∙ z));
      };
    }

pub loop-i-preserved : goal.loop-i-preserved
loop-i-preserved c =
    let places = c.args.places.now in
    let rs = c.args.requests.now in
    let i = c.loop-i.i in
    let here : i < length rs = omega arith in
    let e = c.in_ok-found.ensures.value in
    record {
      checked_on = checked_on rs places i here _ e _ c.loop-i.invariant.checked_on _ refl;
      found_to = found_more places rs c.loop-i.found i _ (omega arith) c.loop-i.invariant.found_to
          (rw (stream_at rs i) (check_found _ _ _ _ e));
    }

pub returns : goal.returns
returns c =
    record {
      answer = record {
        answer = sym (checked_none _ _ _ (omega arith)) ∙ c.loop-i.invariant.checked_on;
        places_found = λ z k h. c.loop-i.invariant.found_to k (omega arith);
      };
    }
