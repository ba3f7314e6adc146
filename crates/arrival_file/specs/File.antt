-- Rules: "Arrival file". Any octets give the records of the file, or its first fault (rule "First
-- fault").
--   header    3 octets `ARL`, 2 octets version 1, big-endian
--   records   12 octets each (arrival_record/specs/Record.antt)
use Rattle.std.specs.Prelude.{ℕ, zero, suc, ◌/◌, Bool, cond, ◌&&◌, List, [], ◌∷◌, length, get_or, drop, eqb, ltb, Result, Ok, Err}
use Rattle.refusal.specs.declared.Refusal.{Refusal}
use Rattle.octets.specs.Octets.{be16}
use Rattle.arrival_record.specs.declared.Record.{Record}
use Rattle.arrival_record.specs.Record.{record_read_of, record_octets}
use Rattle.arrival_file.specs.declared.Phase.{Phase}
use Rattle.refusal.specs.declared.Refusal.TheVariants.{BadFileMark, BadFileVersion, RecordCutShort}
use Rattle.arrival_file.specs.declared.Phase.TheVariants.{Header, Records, Faulty}

-- ---- the header

abbrev pub file_header_octets : ℕ
file_header_octets = 5

abbrev pub file_version : ℕ
file_version = 1

-- `ARL`
abbrev pub has_magic : List ℕ → Bool
has_magic s = eqb (get_or s 0 0) 0x41 && (eqb (get_or s 1 0) 0x52 && eqb (get_or s 2 0) 0x4C)

-- refusals 11, 12
unfoldable pub header_of : List ℕ → Result (Unit {0}) Refusal
header_of s =
    cond (ltb (length s) file_header_octets) (Err BadFileMark)
    (cond (has_magic s) (cond (eqb (be16 s 3) file_version) (Ok tt) (Err BadFileVersion)) (Err BadFileMark))

-- ---- the file

abbrev pub record_first : Result Record Refusal → Result (List Record) Refusal → Result (List Record) Refusal
record_first (Ok r) (Ok rs) = Ok (r ∷ rs)
record_first (Ok r) (Err e) = Err e
record_first (Err e) f = Err e

-- n whole records, and then the end of the file
unfoldable pub records_of : ℕ → List ℕ → Result (List Record) Refusal
records_of zero s = cond (eqb (length s) 0) (Ok []) (Err RecordCutShort)
records_of (suc n) s = record_first (record_read_of s) (records_of n (drop record_octets s))

abbrev pub behind : Result (Unit {0}) Refusal → List ℕ → Result (List Record) Refusal
behind (Ok tt) s = records_of (length s / record_octets) s
behind (Err e) s = Err e

-- the records of a file, or its first fault
unfoldable pub file_of : List ℕ → Result (List Record) Refusal
file_of s = behind (header_of s) (drop file_header_octets s)

-- the answer at the end of a file, with so many octets that were not taken
abbrev pub end_of : Phase → ℕ → Result (Unit {0}) Refusal
end_of Header left = Err BadFileMark
end_of Records left = cond (eqb left 0) (Ok tt) (Err RecordCutShort)
end_of (Faulty e) left = Err e
