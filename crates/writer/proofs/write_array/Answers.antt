use Rattle.std.proofs.Common.{◌≡◌, ap, refl, ◌∙◌, Err, take, rules}
use Rattle.octets.specs.Output.{output_after}
use Rattle.writer.proofs.Calls.{written_by}
use Rattle.writer.proofs.write_array.Goals as goal

pub returns-in_err-check_call : goal.returns-in_err-check_call
returns-in_err-check_call c =
    let a = c.args in
    let w = written_by a.places.now a.cells.now a.sender a.rts a.limit a.n (take a.n a.requests) a.out.now in
    let refused : c.from_residual.result ≡ Err c.in_err-check_call.field-0.0 = search rules in
    record { after = ap (λ r. output_after r a.out.now) refused ∙ w _ _ c.in_err-check_call.ensures.value refl }
