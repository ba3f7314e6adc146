-- Rules: "Arrival file", "Refusals". When a file gives which refusal, 11 to 14, or its records: one
-- case for each rule, and exactly one applies to any octets.
use Rattle.std.specs.Prelude.{ℕ, ◌+◌, ◌*◌, ◌<◌, ◌≤◌, ◌≡◌, ◌≢◌, List, [], ◌∷◌, length, get_or, take, drop, Result, Ok, Err}
use Rattle.octets.specs.Octets.{be16, be32}
use Rattle.metric.specs.Metric.{congested}
use Rattle.arrival_record.specs.Record.{record_octets, record_of_is}
use Rattle.arrival_record.specs.declared.Record.{Record}
use Rattle.arrival_file.specs.File.{file_header_octets, file_version}
use Rattle.refusal.specs.declared.Refusal.{Refusal}
use Rattle.refusal.specs.declared.Refusal.TheVariants.{BadFileMark, BadFileVersion, RecordCutShort, BadRecord}

-- `ARL`
abbrev pub magic : List ℕ
magic = 0x41 ∷ 0x52 ∷ 0x4C ∷ []

-- refusal 14, of the record at the front of some octets: a mark of 4 or more, a flag of 2 or more,
-- or flag 0 beside a time
pub data FaultyRecord (t : List ℕ) : Type 0 where
  mark : congested < get_or t 6 0 → FaultyRecord t
  flag : 1 < get_or t 7 0 → FaultyRecord t
  time : get_or t 7 0 ≡ 0 → be32 t 8 ≢ 0 → FaultyRecord t

-- the records, starting at the octet `start`
module _ (s : List ℕ) (start : ℕ) where
  -- where record k starts; the first is record 0
  abbrev pub record_at : ℕ → ℕ
  record_at k = start + record_octets * k

  -- the first k records have no fault
  abbrev pub SoundBefore : ℕ → Type 0
  SoundBefore k = (j : ℕ) → j < k → FaultyRecord (drop (record_at j) s) → ⊥

  pub data RecordsGive : Result (List Record) Refusal → Type 0 where
    -- record k is whole, and the first with a fault
    bad_record : (k : ℕ) → SoundBefore k → record_at (k + 1) ≤ length s → FaultyRecord (drop (record_at k) s)
        → RecordsGive (Err BadRecord)
    -- the file ends within record k
    cut_short_of : (k : ℕ) → SoundBefore k → record_at k < length s → length s < record_at (k + 1)
        → RecordsGive (Err RecordCutShort)
    -- the file ends with its last record
    whole : (rs : List Record) → SoundBefore (length rs) → length s ≡ record_at (length rs)
        → ((k : ℕ) (d : Record) → k < length rs → get_or rs k d ≡ record_of_is (drop (record_at k) s)) → RecordsGive (Ok rs)

pub data Gives (s : List ℕ) : Result (List Record) Refusal → Type 0 where
  too_short_of : length s < file_header_octets → Gives s (Err BadFileMark)
  wrong_magic : file_header_octets ≤ length s → take 3 s ≢ magic → Gives s (Err BadFileMark)
  wrong_version : file_header_octets ≤ length s → take 3 s ≡ magic → be16 s 3 ≢ file_version → Gives s (Err BadFileVersion)
  records : {f : Result (List Record) Refusal} → file_header_octets ≤ length s → take 3 s ≡ magic → be16 s 3 ≡ file_version
      → RecordsGive s file_header_octets f → Gives s f
