-- When the arrays are refused, and what stands in each entry. Assumes nothing.
use Prim.Native.Nat.{ℕ, zero, suc, ◌+◌, ◌*◌, ◌≤◌, ◌<◌}
use mathlib.Core.Path.{◌≡◌, refl, sym, ap, ◌∙◌}
use mathlib.Core.Logic.{◌⊎◌}
use mathlib.Core.List.{List, map}
use native.Mathlib.Omega.{arith}
use native.Mathlib.Nat.{add-zero}
use borrow.Author.Tests.{le-leb, lt-leb}
use lib.ListN.{length, get_or}
use lib.Seq.{sets}
use Rattle.lists.proofs.Cases.{never, split_le}
use Rattle.octets.specs.Octets.{be16}
use Rattle.octets.proofs.Laws.{stays, stands}
use Rattle.metric.specs.Metric.{decode_of}
use Rattle.metric.specs.declared.Metric.{Metric}
use Rattle.metric_part.specs.Part.{case_at}
use Rattle.reader.specs.Reading.{metrics_at_of}
use Rattle.metric_arrays.specs.Arrays.{Arrays, ArraysAfter, arrays_after, case_field, mark_field, offset_field, metric_count, decoded_all}
use Rattle.metric_arrays.specs.Entries.{RoomFor, EntryIs, SameEntry}
use Rattle.metric_arrays.proofs.Answers.{short_cases, short_marks, short_offsets, long_enough}
use Rattle.refusal.specs.declared.Refusal.TheVariants.{OutputTooShort}
use Rattle.std.specs.Prelude.{Ok, Err}

-- the fields of the metrics of a part, one by one
module _ (field : ℕ → ℕ) (s : List ℕ) where
  fields_count : (n at : ℕ) → length (map field (metrics_at_of s at n)) ≡ n
  unfolding metrics_at_of
  fields_count zero at = refl
  fields_count (suc n) at = ap suc (fields_count n (at + 2))

  field_at : (n at j : ℕ) → j < n → get_or (map field (metrics_at_of s at n)) j 0 ≡ field (be16 s (at + 2 * j))
  unfolding metrics_at_of
  field_at zero at j h = absurd (omega arith)
  field_at (suc n) at zero h = rw add-zero
  field_at (suc n) at (suc j) h =
      let e : at + 2 + 2 * j ≡ at + 2 * suc j = omega arith in
      rw (← e) (field_at n (at + 2) j (omega arith))

  -- an entry in front, and one behind
  entry_front : (out : List ℕ) (n j : ℕ) → j < n → n ≤ length out → get_or (sets out 0 (map field (metrics_at_of s 0 n))) j 0 ≡ field (be16 s (2 * j))
  entry_front out n j h l =
      let c = fields_count n 0 in
      let vs = map field (metrics_at_of s 0 n) in
      let e : 0 + j ≡ j = omega arith in
      let f : 0 + 2 * j ≡ 2 * j = omega arith in
      rw e at (stands vs out 0 j (omega arith) (omega arith)) ∙ rw f at (field_at n 0 j h)

  entry_behind : (out : List ℕ) (n j : ℕ) → n ≤ j → get_or (sets out 0 (map field (metrics_at_of s 0 n))) j 0 ≡ get_or out j 0
  entry_behind out n j h = let c = fields_count n 0 in stays (map field (metrics_at_of s 0 n)) out 0 j (◌⊎◌.inr (omega arith))

module _ (part : List ℕ) (a : Arrays) where
  -- arrays that hold all metrics are accepted
  pub room_decoded : RoomFor a (metric_count part) → (decoded_all part a).answer ≡ Ok tt
  room_decoded h = ap (λ (x : ArraysAfter). x.answer) (long_enough part a h.cases h.marks h.offsets)

  -- and any others refused with 10, and left as they were
  pub no_room_refused : (RoomFor a (metric_count part) → ⊥) → decoded_all part a ≡ arrays_after (Err OutputTooShort) a
  no_room_refused none =
      split_le (metric_count part) (length a.cases)
      (λ c. split_le (metric_count part) (length a.marks)
      (λ m. split_le (metric_count part) (length a.offsets)
      (λ o. absurd (none (record { cases = c; marks = m; offsets = o })))
      (λ o. sym (short_offsets part a c m o)))
      (λ m. sym (short_marks part a c m)))
      (λ c. sym (short_cases part a c))

  -- entry j of accepted arrays is what is asked of the part for metric j
  pub decoded_entry : RoomFor a (metric_count part) → (j : ℕ) (m : Metric) → case_at part j ≡ Ok m → EntryIs (decoded_all part a).arrays j m
  decoded_entry h j m e =
      let n = metric_count part in
      split_le n j
      (λ l. never (let z = rw (le-leb n j l) at e in cc))
      (λ l.
      let z : decode_of (be16 part (2 * j)) ≡ m = (let y = rw (lt-leb n j l) at e in cc) in
      rw (long_enough part a h.cases h.marks h.offsets, ← z) (record {
        case = entry_front case_field part a.cases n j l h.cases;
        mark = entry_front mark_field part a.marks n j l h.marks;
        offset = entry_front offset_field part a.offsets n j l h.offsets;
      }))

  -- the entries behind the metrics stay
  pub decoded_rest : RoomFor a (metric_count part) → (j : ℕ) → metric_count part ≤ j → SameEntry (decoded_all part a).arrays a j
  decoded_rest h j l =
      let n = metric_count part in
      rw (long_enough part a h.cases h.marks h.offsets) (record {
        case = entry_behind case_field part a.cases n j l;
        mark = entry_behind mark_field part a.marks n j l;
        offset = entry_behind offset_field part a.offsets n j l;
      })
