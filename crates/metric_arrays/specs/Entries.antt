-- Rules: "Decoding all metrics". What stands in the three arrays, entry by entry.
use Rattle.std.specs.Prelude.{ℕ, ◌≤◌, ◌≡◌, length, get_or}
use Rattle.metric.specs.Metric.{case_number}
use Rattle.metric.specs.declared.Metric.{Metric}
use Rattle.metric_fields.specs.Fields.{mark_or, offset_or}
use Rattle.metric_arrays.specs.Arrays.{Arrays}

-- every array has n entries or more
pub record RoomFor (a : Arrays) (n : ℕ) : Type 0 where
  pub cases : n ≤ length a.cases
  pub marks : n ≤ length a.marks
  pub offsets : n ≤ length a.offsets

-- entry j is this case: its number, and its mark and its offset, 0 where it has none
pub record EntryIs (a : Arrays) (j : ℕ) (m : Metric) : Type 0 where
  pub case : get_or a.cases j 0 ≡ case_number m
  pub mark : get_or a.marks j 0 ≡ mark_or m 0
  pub offset : get_or a.offsets j 0 ≡ offset_or m 0

-- entry j is the same in both
pub record SameEntry (a b : Arrays) (j : ℕ) : Type 0 where
  pub case : get_or a.cases j 0 ≡ get_or b.cases j 0
  pub mark : get_or a.marks j 0 ≡ get_or b.marks j 0
  pub offset : get_or a.offsets j 0 ≡ get_or b.offsets j 0
