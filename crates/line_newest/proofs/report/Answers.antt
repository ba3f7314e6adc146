use Rattle.std.proofs.Common.{◌≡◌, refl, sym, ◌∙◌, take, arith}
use Rattle.places.proofs.Shape.{is_shaped}
use Rattle.line_report.proofs.OnePacket.{put_refused}
use Rattle.line_newest.specs.Newest.{newest}
use Rattle.line_newest.proofs.Newest.{turn_free, turn_held, gather_all, newest_four_lem, misshapen_text}
use Rattle.line_newest.proofs.report.Goals.{After-loop-place, in-Some, in_default}
use Rattle.line_newest.proofs.report.Goals as goal

-- after the loop the requests are those for all places
asked : (c : After-loop-place) → take c.loop-place.n c.loop-place.requests ≡ newest c.args.places.now
asked c = gather_all _ c.loop-place.requests c.loop-place.n c.loop-place.place-index _ (omega arith) c.loop-place.invariant.all

pub returns-then-not-is_shaped : goal.returns-then-not-is_shaped
returns-then-not-is_shaped c =
    let all = put_refused _ _ _ _ _ (misshapen_text _ _ _ (sym c.is_shaped.ensures.value ∙ c.if-not-is_shaped.true)) c.put_refusal.ensures.after in record { after = all.0; bound = all.1 }

pub loop-place-init : goal.loop-place-init
loop-place-init c =
    record {
      few = (is_shaped _ _ (sym c.is_shaped.ensures.value ∙ c.if-not-is_shaped.false)).few;
      below = omega arith;
      sized = refl;
      all = refl;
    }

pub loop-place-preserved : goal.loop-place-preserved
loop-place-preserved c =
    let places = c.args.places.now in
    let l = c.loop-place in
    let read = c.read_place.ensures.value in
    elim c.match-read_place.branch [
      | in-Some w ↦ turn_held places l.requests l.n l.place-index l.invariant (omega arith) _ read _ _ _ _ _ w.in-Some.is w.distance.ensures.value w.requests-is w.n-is
      | in_default w ↦ turn_free places l.requests l.n l.place-index l.invariant (omega arith) _ read _ _ w.in_default.is w.requests-is w.n-is
    ]

pub put_report-requires-clause-four : goal.put_report-requires-clause-four
put_report-requires-clause-four c =
    rw (asked (goal.at.put_report-requires-clause-four c).After-loop-place) (newest_four_lem c.args.places.now)

pub returns-clause-after : goal.returns-clause-after
returns-clause-after c =
    rw (← asked (goal.at.returns-clause-after c).After-loop-place) c.put_report.ensures.after
