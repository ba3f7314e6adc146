-- The invariant: what the rest gives from here is what the whole gives.
use Rattle.std.proofs.Common.{◌≡◌, ◌/◌, ◌%◌, ◌-◌, ◌≤◌, length, drop}
use Rattle.arrival_record.specs.Record.{record_octets}
use Rattle.arrival_file.specs.Pieces.{taken}
use Rattle.recording.specs.Recorded.{recorded, after_record}
use Rattle.recording.proofs.take_records.Given as goal

abbrev pub invariant-loop-octets : goal.invariant-loop-octets
invariant-loop-octets l =
    (l.octets-iterator.size ≡ record_octets)
    × (length l.octets-iterator.rest.now ≤ length l.s)
    × (drop (length l.s - length l.octets-iterator.rest.now) l.s ≡ l.octets-iterator.rest.now)
    × (length l.octets-iterator.rest.now % record_octets ≡ (length l.s - l.from) % record_octets)
    × (taken after_record (length l.octets-iterator.rest.now / record_octets) (recorded l.places l.cells l.last l.largest) l.octets-iterator.rest.now
    ≡ taken after_record (length (drop l.from l.s) / record_octets) (recorded l.initial.places l.initial.cells l.rts l.gap) (drop l.from l.s))
