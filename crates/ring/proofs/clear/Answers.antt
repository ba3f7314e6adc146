use Rattle.std.proofs.Common.{◌≡◌, ◌+◌, ◌-◌, suc, sym, ◌∙◌, arith}
use Rattle.ring.proofs.Ring.{zeroes_more}
use Rattle.ring.proofs.clear.Goals as goal

pub loop-i-preserved : goal.loop-i-preserved
loop-i-preserved c =
    let a = c.args in
    let i = c.loop-i.i in
    let left : a.count - i ≡ suc (a.count - (i + 1)) = omega arith in
    let next : a.start + (i + 1) ≡ a.start + i + 1 = omega arith in
    rw next (sym (zeroes_more c.loop-i.words (a.start + i) _ _ left) ∙ c.loop-i.invariant)
