use Rattle.std.proofs.Common.{sym, arith}
use Rattle.datagram.proofs.Steps.{found_within}
use Rattle.ccfb_datagram.proofs.ccfb_next_packet.Goals as goal

-- a packet ends within the datagram, so the offset behind it fits
pub overflow_add-at : goal.overflow_add-at
overflow_add-at c = omega (arith, found_within _ _ _ (sym (rw c.in-Ok-Some.field-0-is at c.in-Ok-Some.ensures.value)))
