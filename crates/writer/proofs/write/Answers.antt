use Rattle.std.proofs.Common.{◌≡◌, length, ap, refl, sym, ◌∙◌, Err, rules}
use Rattle.octets.specs.Output.{output_after}
use Rattle.places.proofs.Shape.{is_shaped}
use Rattle.writer.proofs.Calls.{sound_shaped, written_by}
use Rattle.writer.proofs.write.Goals as goal

pub returns-in_err-check_call : goal.returns-in_err-check_call
returns-in_err-check_call c =
    let a = c.args in
    let w = written_by a.places.now a.cells.now a.sender a.rts a.limit (length a.requests.now) a.requests.now a.out.now in
    let refused : c.from_residual.result ≡ Err c.in_err-check_call.field-0.0 = search rules in
    record { after = ap (λ r. output_after r a.out.now) refused ∙ w _ _ c.in_err-check_call.ensures.value refl }

pub write_sound-requires : goal.write_sound-requires
write_sound-requires c =
    let call = sym c.in_ok-check_call.ensures.value in
    record {
      sound = record {
        least = search rules;
        most = search rules;
        few = search rules;
        shape = is_shaped _ _ (sound_shaped _ _ c.args.limit (length c.args.requests.now) call);
        found_all = search rules;
        held = search rules;
      };
    }

pub returns : goal.returns
returns c =
    let a = c.args in
    let w = written_by a.places.now a.cells.now a.sender a.rts a.limit (length a.requests.now) a.requests.now a.out.now in
    record { after = c.write_sound.ensures.after ∙ w _ _ c.in_ok-check_call.ensures.value c.in_ok-validate.ensures.answer.answer }

pub returns-in_err-validate : goal.returns-in_err-validate
returns-in_err-validate c =
    let a = c.args in
    let w = written_by a.places.now a.cells.now a.sender a.rts a.limit (length a.requests.now) a.requests.now a.out.now in
    let refused : c.from_residual-in_err-validate.result ≡ Err c.in_err-validate.field-0.0 = search rules in
    record {
      after = ap (λ r. output_after r a.out.now) refused
          ∙ w _ _ c.in_ok-check_call.ensures.value c.in_err-validate.ensures.answer.answer;
    }
