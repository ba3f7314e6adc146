-- `record_read_of` in each of its cases, in the order of its tests. Assumes nothing.
use Rattle.std.specs.Prelude.{Ok, Err}
use Prim.Native.Nat.{ℕ, ◌<◌, ◌≤◌}
use mathlib.Core.Path.{◌≡◌}
use mathlib.Core.Bool.{true, false}
use mathlib.Core.List.{List}
use borrow.Author.Tests.{lt-ltb, le-ltb}
use lib.ListN.{length, get_or}
use Rattle.refusal.specs.declared.Refusal.TheVariants.{RecordCutShort, BadRecord}
use Rattle.octets.specs.Octets.{be32}
use Rattle.record_fault.specs.Fault.{is_faulty}
use Rattle.arrival_record.specs.Record.{record_of_is, record_read_of, record_octets}

module _ (s : List ℕ) where
  pub cut_short : length s < record_octets → Err RecordCutShort ≡ record_read_of s
  unfolding record_read_of
  cut_short h = simp (lt-ltb (length s) record_octets h)

  module _ (long : record_octets ≤ length s) where
    pub bad_record_lem : is_faulty (get_or s 6 0) (get_or s 7 0) (be32 s 8) ≡ true → Err BadRecord ≡ record_read_of s
    unfolding record_read_of
    bad_record_lem h = simp (le-ltb (length s) record_octets long, h)

    pub sound_record : is_faulty (get_or s 6 0) (get_or s 7 0) (be32 s 8) ≡ false → Ok (record_of_is s) ≡ record_read_of s
    unfolding record_read_of
    sound_record h = simp (le-ltb (length s) record_octets long, h)
