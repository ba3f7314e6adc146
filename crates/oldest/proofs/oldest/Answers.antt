use Rattle.std.proofs.Common.{◌≡◌, sym, ◌∙◌, ap, Ok, Err, arith, rules}
use Rattle.store.proofs.Calls.{place_there}
use Rattle.oldest.proofs.Calls.{told, oldest_told}
use Rattle.oldest.proofs.oldest.Goals as goal

pub oldest_in-requires : goal.oldest_in-requires
oldest_in-requires c =
    let a = c.args in
    let there = place_there a.places.now a.cells.now a.k _ (sym c.in_ok-stream.ensures.value) in
    record { room = omega (arith, there.below, there.sound.sized) }

pub returns-in_err-stream : goal.returns-in_err-stream
returns-in_err-stream c =
    let a = c.args in
    let refused : c.from_residual.result ≡ Err c.in_err-stream.field-0.0 = search rules in
    record { value = refused ∙ ap (told a.places.now a.cells.now a.k) c.in_err-stream.ensures.value ∙ oldest_told a.places.now a.cells.now a.k }

pub returns : goal.returns
returns c =
    let a = c.args in
    record { value = ap Ok c.oldest_in.ensures.value ∙ ap (told a.places.now a.cells.now a.k) c.in_ok-stream.ensures.value ∙ oldest_told a.places.now a.cells.now a.k }
