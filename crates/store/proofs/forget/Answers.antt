use Rattle.std.proofs.Common.{◌<◌, sym, ◌∙◌, length, arith}
use Rattle.places.proofs.Shape.{is_shaped, ready_found}
use Rattle.store.proofs.forget.Goals.{In_ok-p}
use Rattle.store.proofs.forget.Goals as goal

-- the place found is there
there : (c : In_ok-p) → c.in_ok-p.p < length c.args.places.now
there c =
    let a = c.args in
    (ready_found a.places.now a.cells.now _ _ (is_shaped a.places.now a.cells.now (sym c.is_shaped.ensures.value ∙ c.if-not-is_shaped.false))
    (sym c.find.ensures.value ∙ c.in_ok-p.ensures.ok_part)).there

pub offset_bounds-places-p : goal.offset_bounds-places-p
offset_bounds-places-p c = let fits = c.well_formed in omega (arith, there c)

pub bounds-places-p : goal.bounds-places-p
bounds-places-p c = there c
