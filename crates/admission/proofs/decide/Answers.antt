use Rattle.std.proofs.Common.{◌≤◌, ◌≡◌, sym, ◌∙◌, ap, Ok, Err, rules}
use Rattle.metric.specs.Metric.{congested}
use Rattle.refusal.specs.declared.Refusal.TheVariants.{NoFreePlace}
use Rattle.places.specs.Shape.{Shaped}
use Rattle.places.proofs.Shape.{ready_found, ready_free}
use Rattle.admission.specs.Decision.{screened}
use Rattle.admission.proofs.Decided.{sound_is, decided_refused, past_known, past_new, later_fits}
use Rattle.admission.proofs.decide.Goals.{In_ok-screen}
use Rattle.admission.proofs.decide.Goals as goal

-- past the first tests
sound : (c : In_ok-screen) → screened c.args.places.now c.args.cells.now c.args.mark ≡ Ok tt
sound c = sym c.in_ok-screen.ensures.value

sound-store : (c : In_ok-screen) → Shaped c.args.places.now c.args.cells.now × (c.args.mark ≤ congested)
sound-store c = sound_is c.args.places.now c.args.cells.now c.args.mark (sound c)

pub returns-in_err-screen-clause-value : goal.returns-in_err-screen-clause-value
returns-in_err-screen-clause-value c =
    let a = c.args in
    let refused : c.from_residual.result ≡ Err c.in_err-screen.field-0.0 = search rules in
    refused ∙ decided_refused a.places.now a.cells.now a.ssrc a.number a.mark _ (sym c.in_err-screen.ensures.value)

pub place_of-requires : goal.place_of-requires
place_of-requires c = record { some = (sound-store c).0.some }

pub decide_later-requires : goal.decide_later-requires
decide_later-requires c =
    let a = c.args in
    record { ready = ready_found a.places.now a.cells.now _ _ (sound-store (goal.at.decide_later-requires c).In_ok-screen).0 (sym c.in-Some.ensures.value) }

pub returns-in-Some-clause-value : goal.returns-in-Some-clause-value
returns-in-Some-clause-value c =
    let a = c.args in
    c.decide_later.ensures.value
    ∙ past_known a.places.now a.cells.now a.ssrc a.number a.mark (sound (goal.at.returns-in-Some-clause-value c).In_ok-screen) _ (sym c.in-Some.ensures.value)

pub returns-in-Some-clause-fits : goal.returns-in-Some-clause-fits
returns-in-Some-clause-fits c =
    let a = c.args in
    let s = sound-store (goal.at.returns-in-Some-clause-fits c).In_ok-screen in
    let ready = ready_found a.places.now a.cells.now _ _ s.0 (sym c.in-Some.ensures.value) in
    rw c.decide_later.ensures.value (later_fits a.places.now a.cells.now _ a.number a.mark ready s.1)

pub returns-in_err-p-clause-value : goal.returns-in_err-p-clause-value
returns-in_err-p-clause-value c =
    let a = c.args in
    let refused : c.from_residual-in_err-p.result ≡ Err c.in_err-p.field-0.0 = search rules in
    let none = c.in_err-p.ensures.ok_part in
    let told = rw none at c.in_err-p.ensures.value in
    let why : c.in_err-p.field-0.0 ≡ NoFreePlace = cc in
    refused ∙ ap Err why
    ∙ past_new a.places.now a.cells.now a.ssrc a.number a.mark (sound (goal.at.returns-in_err-p-clause-value c).In_ok-screen) _
    (sym c.place_of.ensures.value ∙ c.in_default.is) (sym c.first_free.ensures.value ∙ none)

pub returns-clause-value : goal.returns-clause-value
returns-clause-value c =
    let a = c.args in
    past_new a.places.now a.cells.now a.ssrc a.number a.mark (sound (goal.at.returns-clause-value c).In_ok-screen) _
    (sym c.place_of.ensures.value ∙ c.in_default.is) (sym c.first_free.ensures.value ∙ c.in_ok-p.ensures.ok_part)

pub returns-clause-fits : goal.returns-clause-fits
returns-clause-fits c =
    let a = c.args in
    ready_free a.places.now a.cells.now _ (sound-store (goal.at.returns-clause-fits c).In_ok-screen).0
    (sym c.first_free.ensures.value ∙ c.in_ok-p.ensures.ok_part)
