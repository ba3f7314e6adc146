-- The invariant: the packets that are left, written onto the
-- output as it is at `end`, give what all packets, written onto the output at entry, give.
use mathlib.Core.Path.{◌≡◌}
use lib.ListN.{length}
use Rattle.cutting.specs.Plan.{plan_from, plan, most_packets}
use Rattle.blocks.specs.Steps.{remaining, InRange, metric_found}
use Rattle.packets.proofs.Packets.{Writing}
use Rattle.packets.proofs.write_packets.Given as goal

abbrev pub invariant-loop-from : goal.invariant-loop-from
invariant-loop-from l =
    (length l.out ≡ length l.initial.out) × InRange l.report.requests.now l.from
    × Writing (metric_found l.report.cells.now l.report.rts l.report.found.now) l.report.requests.now l.report.sender l.report.rts l.out l.end
    (plan_from l.report.limit (remaining l.report.requests.now l.from)) l.initial.out (plan l.report.limit l.report.requests.now)

abbrev pub decreases-loop-from : goal.decreases-loop-from
decreases-loop-from l = most_packets (remaining l.report.requests.now l.from)
