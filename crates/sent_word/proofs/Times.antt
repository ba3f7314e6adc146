-- The arrival time that a sender is given, beside the time of the arrival. Assumes nothing.
use Rattle.std.proofs.Common.{◌≡◌, ℕ, ◌+◌, ◌-◌, ◌*◌, ◌/◌, ◌%◌, ◌<◌, ◌≤◌, ap, ◌∙◌, arith, le-ltb}
use borrow.Author.Tests.{lt-leb}
use Rattle.lists.proofs.Cases.{split_le}
use Rattle.metric.specs.Metric.{times, offset_unit, longest_age, after_rts, age_of, seen_at_age, seen_of}
use Rattle.sent_word.specs.Status.{arrival_time, status_of}
use Rattle.std.specs.Prelude.{Some}
use Rattle.sent_word.specs.declared.Status.TheVariants.{Received}

-- what is left of an age when whole units of the offset are taken off
whole_off : (x t age : ℕ) → x ≡ t + age → x - offset_unit * (age / offset_unit) ≡ t + age % offset_unit
whole_off x t age e = omega arith

turned : (x : ℕ) → (x + times) % times ≡ x % times
turned x = omega arith

-- rule "Arrival time": an offset is rounded down, so the time is up to 63 units later
arrival_near : (rts t : ℕ) → rts < times → t < times
    → arrival_time rts (age_of rts t / offset_unit) ≡ (t + age_of rts t % offset_unit) % times
arrival_near rts t r l =
    split_le t rts
    (λ e. ap (λ (x : ℕ). x % times) (sooner e) ∙ turned (t + age_of rts t % offset_unit))
    (λ e. ap (λ (x : ℕ). x % times) (whole_off (rts + times) t (age_of rts t) (omega arith)))
  where
    sooner : t ≤ rts → rts + times - offset_unit * (age_of rts t / offset_unit) ≡ t + age_of rts t % offset_unit + times
    sooner e =
        let age : rts ≡ t + age_of rts t = omega arith in
        let off = whole_off rts t (age_of rts t) age in
        omega arith

-- so of an arrival that is reported with an offset, a sender knows the mark, and the time but for those units
pub status_near : (mark rts t : ℕ) → rts < times → t < times → age_of rts t ≤ longest_age
    → status_of (seen_of (Some (record { mark = mark; time = Some t })) rts) rts ≡ Received (mark % 4) ((t + age_of rts t % offset_unit) % times)
unfolding seen_at_age
status_near mark rts t r l a =
    rw (lt-leb after_rts (age_of rts t) (omega arith), le-ltb longest_age (age_of rts t) a) (ap (Received (mark % 4)) (arrival_near rts t r l))
