-- Decoding what was encoded gives back received or not, the mark, and offset, over range or no time. Assumes nothing.
use Prim.Native.Nat.{ℕ, ◌+◌, ◌*◌, ◌/◌, ◌%◌, ◌^◌, ◌<◌, ◌≤◌}
use mathlib.Core.Path.{◌≡◌, ◌∙◌}
use native.Mathlib.Omega.{arith}
use borrow.Author.Tests.{lt-ltb, le-ltb, lt-leb, le-leb, ne_eqb}
use lib.Dec.{lit<}
use Rattle.lists.proofs.Cases.{split_le}
use Rattle.metric.specs.Metric.{age_of, ato_of_age, ato_of, assembled_of, encode_of, received_of, decode_of, seen_at_age, seen_at_time, seen_of, largest_offset, mark_unit, received_bit, longest_age}
use Rattle.std.specs.Prelude.{Option, Some, None}
use Rattle.metric.specs.declared.Arrived.{Arrived}
use Rattle.metric.proofs.Table.{after_row, over_row, else_row}
use Rattle.metric.proofs.Decoded.{reads_not_received, reads_received}
use Rattle.metric.specs.declared.Metric.TheVariants.{Received}

-- what was put into the fields is in them
fields : (k a : ℕ) → k < 4 → a < mark_unit → decode_of (received_bit + mark_unit * k + a) ≡ received_of k a
fields k a hk ha =
    let m : ℕ = received_bit + mark_unit * k + a in
    let q : m / mark_unit ≡ 4 + k = omega arith in
    let e : m / mark_unit % 4 ≡ k = rw q (omega arith) in
    let r : m % mark_unit ≡ a = omega arith in
    reads_received m (omega arith) ∙ rw (e, r)

at_age : (k age : ℕ) → k < 4 → decode_of (received_bit + mark_unit * k + ato_of_age age) ≡ seen_at_age k age
unfolding seen_at_age
at_age k age h =
    split_le (2 ^ 31) age
    (λ l. rw (after_row age l, le-leb (2 ^ 31) age l) (fields k 0x1FFF h (lit< tt)))
    (λ l. split_le age longest_age
    (λ i. rw (else_row age i, lt-leb (2 ^ 31) age l, le-ltb longest_age age i) (in_range_lem (age / 64) (omega arith)))
    (λ o. rw (over_row age o l, lt-leb (2 ^ 31) age l, lt-ltb longest_age age o) (fields k 0x1FFE h (lit< tt))))
  where
    in_range_lem : (a : ℕ) → a ≤ largest_offset → decode_of (received_bit + mark_unit * k + a) ≡ Received k a
    in_range_lem a i = fields k a h (omega arith) ∙ rw (ne_eqb a 0x1FFF (λ e. omega arith), ne_eqb a 0x1FFE (λ e. omega arith))

pub decode_encode : (cell : Option Arrived) (rts : ℕ) → decode_of (encode_of cell rts) ≡ seen_of cell rts
decode_encode None rts = reads_not_received 0 (omega arith)
decode_encode (Some a) rts = at_time a.time
  where
    at_time : (time : Option ℕ) → decode_of (assembled_of a.mark (ato_of time rts)) ≡ seen_at_time (a.mark % 4) time rts
    at_time None = fields (a.mark % 4) 0x1FFF (omega arith) (omega arith)
    at_time (Some t) = at_age (a.mark % 4) (age_of rts t) (omega arith)
