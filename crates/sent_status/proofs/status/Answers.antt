use Rattle.std.proofs.Common.{sym, ◌∙◌, arith}
use Rattle.places.specs.Shape.{Ready}
use Rattle.places.proofs.Shape.{is_shaped, ready_found}
use Rattle.sent_status.proofs.status.Goals.{In_ok-p}
use Rattle.sent_status.proofs.status.Goals as goal

-- the place that was found is there, with its cells
ready : (c : In_ok-p) → Ready c.args.places.now c.args.cells.now c.in_ok-p.p
ready c =
    let a = c.args in
    ready_found a.places.now a.cells.now _ _ (is_shaped a.places.now a.cells.now (sym c.is_shaped.ensures.value ∙ c.if-not-is_shaped.false))
    (sym c.find.ensures.value ∙ c.in_ok-p.ensures.ok_part)

pub highest_at-requires : goal.highest_at-requires
highest_at-requires c = record { there = (ready c).there }

pub status_at-requires : goal.status_at-requires
status_at-requires c =
    let r = ready (goal.at.status_at-requires c).In_ok-p in
    record { room = omega arith }
