-- Rules: "Arrival file". A record, in 12 octets (rule "Record"). Numbers are big-endian.
--   4 octets SSRC, 2 octets sequence number, 1 octet ECN mark, 1 octet flag, 4 octets time
-- The flag is 1 where the time is known; where it is not, flag and time are 0.
use Rattle.std.specs.Prelude.{ℕ, cond, not, List, length, get_or, eqb, ltb, Result, Ok, Err}
use Rattle.octets.specs.Octets.{be16, be32}
use Rattle.metric.specs.Metric.{time_of}
use Rattle.record_fault.specs.Fault.{is_faulty}
use Rattle.arrival_record.specs.declared.Record.{Record}
use Rattle.refusal.specs.declared.Refusal.{Refusal}
use Rattle.refusal.specs.declared.Refusal.TheVariants.{RecordCutShort, BadRecord}

abbrev pub record_octets : ℕ
record_octets = 12

-- the record at the front of some octets
abbrev pub record_of_is : List ℕ → Record
record_of_is s = record { ssrc = be32 s 0; number = be16 s 4; mark = get_or s 6 0; time = time_of (not (eqb (get_or s 7 0) 0)) (be32 s 8) }

-- refusals 13, 14: a cut record is 13 whatever its octets
unfoldable pub record_read_of : List ℕ → Result Record Refusal
record_read_of s =
    cond (ltb (length s) record_octets) (Err RecordCutShort)
    (cond (is_faulty (get_or s 6 0) (get_or s 7 0) (be32 s 8)) (Err BadRecord) (Ok (record_of_is s)))
