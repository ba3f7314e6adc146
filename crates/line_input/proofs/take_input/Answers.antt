-- A turn goes on from what the turns before it left.
use Rattle.line_input.proofs.Read.{more_taken, last_taken}
use Rattle.line_input.proofs.take_input.Goals as goal

pub returns-in-Break : goal.returns-in-Break
returns-in-Break g c =
    let few = rw c.in-Break.is at c.in_ok-next.ensures.few in
    let taken = rw c.in-Break.is at c.in_ok-next.ensures.after in
    record { after = last_taken _ _ c.loop.invariant _ _ _ _ few taken }

pub loop-preserved : goal.loop-preserved
loop-preserved g c =
    let few = rw c.in-Continue.is at c.in_ok-next.ensures.few in
    let taken = rw c.in-Continue.is at c.in_ok-next.ensures.after in
    more_taken _ _ c.loop.invariant _ _ _ _ few taken
