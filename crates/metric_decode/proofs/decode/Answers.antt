use mathlib.Core.Path.{sym}
use native.Mathlib.Omega.{arith}
use Rattle.metric.proofs.Decoded.{reads_not_received, reads_offset, reads_over_range, reads_no_time}
use Rattle.metric_decode.proofs.decode.Goals as goal

pub returns-then-m-lt-RECEIVED_BIT : goal.returns-then-m-lt-RECEIVED_BIT
returns-then-m-lt-RECEIVED_BIT c = record { value = sym (reads_not_received _ c.if-m-lt-RECEIVED_BIT.true) }

-- the codes are above the offsets
pub returns-then-offset-lt-OVER_RANGE : goal.returns-then-offset-lt-OVER_RANGE
returns-then-offset-lt-OVER_RANGE c =
    record { value = sym (reads_offset _ c.if-m-lt-RECEIVED_BIT.false (omega (arith, c.if-offset-lt-OVER_RANGE.true))) }

pub returns-then-offset-eq-OVER_RANGE : goal.returns-then-offset-eq-OVER_RANGE
returns-then-offset-eq-OVER_RANGE c =
    record { value = sym (reads_over_range _ c.if-m-lt-RECEIVED_BIT.false c.if-offset-eq-OVER_RANGE.true) }

pub returns : goal.returns
returns c =
    record { value = sym (reads_no_time _ c.if-m-lt-RECEIVED_BIT.false (omega (arith, c.if-offset-lt-OVER_RANGE.false, c.if-offset-eq-OVER_RANGE.false))) }
