-- The number, the mark and the offset of a metric's case, from the bits of a received one. Assumes nothing.
use Prim.Native.Nat.{ℕ, ◌+◌, ◌-◌, ◌/◌, ◌%◌, ◌^◌, ◌<◌, ◌≤◌}
use mathlib.Core.Path.{◌≡◌}
use mathlib.Core.Bool.{cond}
use native.Mathlib.Omega.{arith}
use borrow.Author.Tests.{lt-ltb, le-ltb}
use lib.Dec.{ltb}
use Rattle.lists.proofs.Cases.{split_le, split_eq}
use Rattle.metric.specs.Metric.{ato_bits, largest_offset, over_range, no_time, mark_unit, received_bit, case_number, decode_of}
use Rattle.metric.proofs.Decoded.{reads_not_received, reads_no_time, reads_over_range, reads_offset}
use Rattle.metric_fields.specs.Fields.{mark_or, offset_or}

module _ (m b : ℕ) (e : b ≡ cond (ltb m received_bit) 0 m) where
  -- the bits of a received metric are its own
  own : received_bit ≤ m → b ≡ m
  own h = rw (le-ltb m received_bit h) at e

  none : m < received_bit → b ≡ 0
  none h = rw (lt-ltb m received_bit h) at e

  -- the four cases of a metric
  by_case : {P : Type 0} → (m < received_bit → P) → (received_bit ≤ m → ato_bits m ≤ largest_offset → P)
      → (received_bit ≤ m → ato_bits m ≡ over_range → P) → (received_bit ≤ m → ato_bits m ≡ no_time → P) → P
  by_case f g o t =
      split_le received_bit m
      (λ r. split_le (ato_bits m) largest_offset (g r) (λ l. split_eq (ato_bits m) over_range (o r) (λ n. t r (omega arith))))
      f

  pub number_read : m < 2 ^ 16 → m / received_bit + (b % mark_unit - largest_offset) ≡ case_number (decode_of m)
  number_read s =
      by_case
      (λ h. rw (none h, reads_not_received m h) (omega arith))
      (λ h l. rw (own h, reads_offset m h l) (omega arith))
      (λ h l. rw (own h, reads_over_range m h l) (omega arith))
      (λ h l. rw (own h, reads_no_time m h l) (omega arith))

  pub mark_read : b / mark_unit % 4 ≡ mark_or (decode_of m) 0
  mark_read =
      by_case
      (λ h. rw (none h, reads_not_received m h))
      (λ h l. rw (own h, reads_offset m h l))
      (λ h l. rw (own h, reads_over_range m h l))
      (λ h l. rw (own h, reads_no_time m h l))

  pub offset_read : b % mark_unit ≤ largest_offset → b % mark_unit ≡ offset_or (decode_of m) 0
  offset_read l =
      by_case
      (λ h. rw (none h, reads_not_received m h))
      (λ h o. rw (own h, reads_offset m h o))
      (λ h o. absurd (omega (arith, own h)))
      (λ h o. absurd (omega (arith, own h)))

  pub offset_none : largest_offset < b % mark_unit → 0 ≡ offset_or (decode_of m) 0
  offset_none l =
      by_case
      (λ h. rw (reads_not_received m h))
      (λ h o. absurd (omega (arith, own h)))
      (λ h o. rw (reads_over_range m h o))
      (λ h o. rw (reads_no_time m h o))
