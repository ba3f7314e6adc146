-- Rules: "Sent packets". What is known of a sent number, and what a registration and a report make
-- of it.
use Rattle.std.specs.Prelude.{ℕ, ◌+◌, ◌-◌, ◌*◌, ◌%◌, Bool, true, false, cond, Option, Some, None}
use Rattle.metric.specs.Metric.{times, offset_unit}
use Rattle.metric.specs.declared.Metric.{Metric}
use Rattle.sent_word.specs.declared.Status.{Status}
use Rattle.metric.specs.declared.Metric.TheVariants as metric
use Rattle.sent_word.specs.declared.Status.TheVariants.{NotReported, Missing, Received, OverRange, NoTime}

-- rule "Arrival time": RTS less 64 units of time for each unit of the offset, modulo 2^32
abbrev pub arrival_time : ℕ → ℕ → ℕ
arrival_time rts offset = (rts + times - offset_unit * offset) % times

-- what a metric says of its number, in a packet with that RTS
abbrev pub status_of : Metric → ℕ → Status
status_of metric.NotReceived rts = Missing
status_of (metric.Received mark offset) rts = Received mark (arrival_time rts offset)
status_of (metric.OverRange mark) rts = OverRange mark
status_of (metric.NoTime mark) rts = NoTime mark

abbrev pub is_received : Status → Bool
is_received NotReported = false
is_received Missing = false
is_received (Received mark time) = true
is_received (OverRange mark) = true
is_received (NoTime mark) = true

-- rule "Registered again": what was reported stays
abbrev pub after_registering : Option Status → Option Status
after_registering None = Some NotReported
after_registering (Some s) = Some s

-- rule "Received stays received": "missing" never replaces "received", and another "received" does
unfoldable pub reported_over : Status → Status → Status
reported_over held new = cond (is_received new) new (cond (is_received held) held new)

-- rule "Ignored reports": a report on a number that is not registered
abbrev pub after_report : Option Status → Status → Option Status
after_report None new = None
after_report (Some held) new = Some (reported_over held new)
