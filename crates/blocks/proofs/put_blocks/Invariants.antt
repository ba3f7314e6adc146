-- The invariant: the rest of the packet, written onto the output as
-- it is, gives what the whole packet, written onto the output at entry, gives.
use Prim.Native.Nat.{◌+◌, ◌-◌}
use mathlib.Core.Path.{◌≡◌}
use lib.ListN.{length}
use Rattle.packet.specs.Sizes.{packet_frame, packet_header_octets}
use Rattle.cutting.specs.Plan.{filled_from}
use Rattle.blocks.specs.Steps.{remaining, InRange, metric_found}
use Rattle.blocks.proofs.Blocks.{position}
use Rattle.blocks.proofs.Blocks.{Filling}
use Rattle.blocks.proofs.put_blocks.Given as goal

abbrev pub invariant-loop-i : goal.invariant-loop-i
invariant-loop-i l =
    (length l.out ≡ length l.initial.out) × (l.room + l.at + 4 ≡ l.report.limit) × InRange l.report.requests.now (position l.i l.reported)
    × Filling (metric_found l.report.cells.now l.report.rts l.report.found.now) l.report.requests.now l.out l.at (filled_from l.room (remaining l.report.requests.now (position l.i l.reported)))
    l.initial.out packet_header_octets (filled_from (l.report.limit - packet_frame) (remaining l.report.requests.now (position l.initial.i l.initial.reported)))
