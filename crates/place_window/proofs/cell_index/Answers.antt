use native.Mathlib.Omega.{arith}
use Rattle.place_window.proofs.cell_index.Goals as goal

pub returns : goal.returns
returns c = record { value = omega arith }
