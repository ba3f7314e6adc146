-- Rules: "Decoding all metrics". All metrics of a part in three arrays: entry j has the number of
-- metric j's case, its mark and its offset, and 0 where the case has no mark or no offset.
use Rattle.std.specs.Prelude.{ℕ, ◌/◌, cond, List, map, length, ltb, Result, Ok, Err}
use Rattle.std.proofs.lemmas.List.Edits.{sets}
use Rattle.metric.specs.Metric.{case_number, decode_of}
use Rattle.metric_fields.specs.Fields.{mark_or, offset_or}
use Rattle.reader.specs.Reading.{metrics_at_of}
use Rattle.refusal.specs.declared.Refusal.{Refusal}
use Rattle.refusal.specs.declared.Refusal.TheVariants.{OutputTooShort}

pub record Arrays : Type 0 where
  pub cases : List ℕ
  pub marks : List ℕ
  pub offsets : List ℕ

abbrev pub arrays : List ℕ → List ℕ → List ℕ → Arrays
arrays cs ms os = record { cases = cs; marks = ms; offsets = os }

-- the answer to the call, and the arrays after it
pub record ArraysAfter : Type 0 where
  pub answer : Result (Unit {0}) Refusal
  pub arrays : Arrays

abbrev pub arrays_after : Result (Unit {0}) Refusal → Arrays → ArraysAfter
arrays_after r a = record { answer = r; arrays = a }

-- the three fields of a metric
abbrev pub case_field : ℕ → ℕ
case_field m = case_number (decode_of m)

abbrev pub mark_field : ℕ → ℕ
mark_field m = mark_or (decode_of m) 0

abbrev pub offset_field : ℕ → ℕ
offset_field m = offset_or (decode_of m) 0

-- each field of these metrics in the front of its array; the entries behind stay
abbrev pub decoded_into : List ℕ → Arrays → Arrays
decoded_into ms a =
    arrays (sets a.cases 0 (map case_field ms)) (sets a.marks 0 (map mark_field ms)) (sets a.offsets 0 (map offset_field ms))

-- how many metrics a part has: an odd last octet is none
abbrev pub metric_count : List ℕ → ℕ
metric_count part = length part / 2

-- 10 where an array is shorter than that; all three then stay
unfoldable pub decoded_all : List ℕ → Arrays → ArraysAfter
decoded_all part a =
    cond (ltb (length a.cases) (metric_count part)) (arrays_after (Err OutputTooShort) a)
    (cond (ltb (length a.marks) (metric_count part)) (arrays_after (Err OutputTooShort) a)
    (cond (ltb (length a.offsets) (metric_count part)) (arrays_after (Err OutputTooShort) a)
    (arrays_after (Ok tt) (decoded_into (metrics_at_of part 0 (metric_count part)) a))))
