use Prim.Native.Nat.{◌<◌, ◌≤◌}
use mathlib.Core.Path.{refl, subst}
use native.Mathlib.Omega.{arith}
use lib.ListN.{length}
use Rattle.std.specs.Prelude.{Ok}
use Rattle.metric.specs.Metric.{congested}
use Rattle.places.specs.Shape.{Ready}
use Rattle.place_window.specs.Window.{updated}
use Rattle.admission.specs.Decision.{Fits}
use Rattle.arrivals.proofs.enter.Goals.{After-cell_index-at, After-cell_index-at-in-Copy, In-Ahead, In-Copy, In-First, In-Late}
use Rattle.arrivals.proofs.enter.Goals as goal

-- in each case what was decided fits the store
first_fits : (c : In-First) → let a = c.args in Ready a.places.now a.cells.now c.in-First.p
first_fits c =
    subst (λ e. Fits c.args.places.now c.args.cells.now c.args.mark (Ok e)) c.in-First.is c.requires.fits

ahead-fits : (c : In-Ahead)
    → let a = c.args in Ready a.places.now a.cells.now c.in-Ahead.p × (0 < c.in-Ahead.f)
ahead-fits c =
    subst (λ e. Fits c.args.places.now c.args.cells.now c.args.mark (Ok e)) c.in-Ahead.is c.requires.fits

late-fits : (c : In-Late) → let a = c.args in Ready a.places.now a.cells.now c.in-Late.p
late-fits c =
    subst (λ e. Fits c.args.places.now c.args.cells.now c.args.mark (Ok e)) c.in-Late.is c.requires.fits

copy-fits : (c : In-Copy)
    → let a = c.args in Ready a.places.now a.cells.now c.in-Copy.p × (a.mark ≤ congested)
copy-fits c =
    subst (λ e. Fits c.args.places.now c.args.cells.now c.args.mark (Ok e)) c.in-Copy.is c.requires.fits

late-there : (c : After-cell_index-at) → c.cell_index-at.result < length c.args.cells.now
late-there c = let r = (subst (λ e. Fits c.args.places.now c.args.cells.now c.args.mark (Ok e)) c.in-Late.is c.requires.fits) in omega (arith, c.cell_index-at.ensures.value, r.there, r.sized)

copy-there : (c : After-cell_index-at-in-Copy) → c.cell_index-at-in-Copy.result < length c.args.cells.now
copy-there c = let r = ((subst (λ e. Fits c.args.places.now c.args.cells.now c.args.mark (Ok e)) c.in-Copy.is c.requires.fits)).0 in omega (arith, c.cell_index-at-in-Copy.ensures.value, r.there, r.sized)

pub open_window-requires : goal.open_window-requires
open_window-requires c =
    record {
      ready = first_fits (goal.at.open_window-requires c).In-First;
      some = omega arith;
      few = omega arith;
    }

pub open_window-requires-in-Ahead : goal.open_window-requires-in-Ahead
open_window-requires-in-Ahead c =
    let fits = ahead-fits (goal.at.open_window-requires-in-Ahead c).In-Ahead in
    record {
      ready = fits.0;
      some = omega (arith, c.newly.ensures.value, fits.1);
      few = omega (arith, c.newly.ensures.value);
    }

pub cell_index-at-requires : goal.cell_index-at-requires
cell_index-at-requires c =
    let r = late-fits c in
    record { small = omega (arith, r.there, r.few) }

pub offset_bounds-cells-at : goal.offset_bounds-cells-at
offset_bounds-cells-at c =
    let r = late-fits (goal.at.offset_bounds-cells-at c).In-Late in
    omega (arith, late-there c, r.few, r.sized)

pub bounds-cells-at : goal.bounds-cells-at
bounds-cells-at c = late-there c

pub cell_index-at-requires-in-Copy : goal.cell_index-at-requires-in-Copy
cell_index-at-requires-in-Copy c =
    let r = (copy-fits c).0 in
    record { small = omega (arith, r.there, r.few) }

pub offset_bounds-cells-at-in-Copy : goal.offset_bounds-cells-at-in-Copy
offset_bounds-cells-at-in-Copy c =
    let r = (copy-fits (goal.at.offset_bounds-cells-at-in-Copy c).In-Copy).0 in
    omega (arith, copy-there c, r.few, r.sized)

pub bounds-cells-at-in-Copy : goal.bounds-cells-at-in-Copy
bounds-cells-at-in-Copy c = copy-there (goal.at.bounds-cells-at-in-Copy c).After-cell_index-at-in-Copy

pub copied_word-requires : goal.copied_word-requires
copied_word-requires c = record { sound_mark = (copy-fits (goal.at.copied_word-requires c).In-Copy).1 }

pub offset_bounds-cells-at-in-Copy-2 : goal.offset_bounds-cells-at-in-Copy-2
offset_bounds-cells-at-in-Copy-2 c =
    let r = (copy-fits (goal.at.offset_bounds-cells-at-in-Copy-2 c).In-Copy).0 in
    omega (arith, copy-there (goal.at.offset_bounds-cells-at-in-Copy-2 c).After-cell_index-at-in-Copy, r.few, r.sized)

pub bounds-cells-at-in-Copy-2 : goal.bounds-cells-at-in-Copy-2
bounds-cells-at-in-Copy-2 c = copy-there (goal.at.bounds-cells-at-in-Copy-2 c).After-cell_index-at-in-Copy

pub returns-in-First : goal.returns-in-First
returns-in-First c =
    record { places = rw c.in-First.is c.open_window.ensures.place; cells = rw c.in-First.is c.open_window.ensures.window }

pub returns-in-Ahead : goal.returns-in-Ahead
returns-in-Ahead c =
    record {
      places = rw c.in-Ahead.is c.open_window-in-Ahead.ensures.place;
      cells = rw c.in-Ahead.is (rw c.newly.ensures.value at c.open_window-in-Ahead.ensures.window);
    }

pub returns-in-Late : goal.returns-in-Late
returns-in-Late c =
    record { places = rw c.in-Late.is refl; cells = rw (c.in-Late.is, c.cell_index-at.ensures.value) refl }

pub returns-in-Copy : goal.returns-in-Copy
unfolding updated
returns-in-Copy c =
    record { places = rw c.in-Copy.is refl; cells = rw (c.in-Copy.is, c.copied_word.ensures.value, c.cell_index-at-in-Copy.ensures.value) refl }
