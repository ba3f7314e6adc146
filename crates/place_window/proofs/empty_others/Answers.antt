use mathlib.Core.Path.{sym}
use native.Mathlib.Omega.{arith}
use Rattle.ring.proofs.Ring.{emptied_none}
use Rattle.place_window.proofs.empty_others.Goals as goal

pub returns-then-n-eq1 : goal.returns-then-n-eq1
returns-then-n-eq1 c = record { content = sym (emptied_none _ _ _ _ (omega (arith, c.if-n-eq1.true))) }

pub returns : goal.returns
returns c = record { content = c.empty_run.ensures.content }
