-- What each metric of 16 bits is read as, and that the two codes are never an offset. Assumes nothing.
use Prim.Native.Nat.{ℕ, ◌<◌, ◌≤◌}
use mathlib.Core.Path.{◌≡◌, refl}
use mathlib.Core.Bool.{Bool, true, false, cond}
use native.Mathlib.Omega.{arith}
use borrow.Author.Tests.{lt-ltb, le-ltb, eq-eqb, ne_eqb, eqb-false}
use lib.Dec.{eqb, ltb}
use Rattle.lists.proofs.Cases.{never}
use Rattle.metric.specs.Metric.{mark_bits, ato_bits, received_of, decode_of, largest_offset, mark_unit, received_bit}
use Rattle.metric.specs.ReadBack.{Offset}
use Rattle.metric.specs.declared.Metric.TheVariants.{NotReceived, Received, OverRange, NoTime}

module _ (m : ℕ) where
  -- rule "Ignored bits": R = 0 is not received, whatever the lower 15 bits are
  pub reads_not_received : m < received_bit → decode_of m ≡ NotReceived
  unfolding decode_of
  reads_not_received h = rw (lt-ltb m received_bit h)

  -- R = 1
  pub reads_received : received_bit ≤ m → decode_of m ≡ received_of (mark_bits m) (ato_bits m)
  unfolding decode_of
  reads_received h = rw (le-ltb m received_bit h)

  pub reads_no_time : received_bit ≤ m → ato_bits m ≡ 0x1FFF → decode_of m ≡ NoTime (mark_bits m)
  reads_no_time h e = rw (reads_received h, eq-eqb (ato_bits m) 0x1FFF e)

  pub reads_over_range : received_bit ≤ m → ato_bits m ≡ 0x1FFE → decode_of m ≡ OverRange (mark_bits m)
  reads_over_range h e = rw (reads_received h, ne_eqb (ato_bits m) 0x1FFF (λ f. omega arith), eq-eqb (ato_bits m) 0x1FFE e)

  pub reads_offset : received_bit ≤ m → ato_bits m ≤ largest_offset → decode_of m ≡ Received (mark_bits m) (ato_bits m)
  reads_offset h l = rw (reads_received h, ne_eqb (ato_bits m) 0x1FFF (λ f. omega arith), ne_eqb (ato_bits m) 0x1FFE (λ f. omega arith))

pub codes_are_no_offset : (m mark offset : ℕ) → decode_of m ≡ Received mark offset → Offset m mark offset
unfolding decode_of
codes_are_no_offset m mark offset e = by_r (ltb m received_bit) e
  where
    by_range : (s : Bool) → eqb (ato_bits m) 0x1FFE ≡ s → eqb (ato_bits m) 0x1FFF ≡ false
        → cond s (OverRange (mark_bits m)) (Received (mark_bits m) (ato_bits m)) ≡ Received mark offset → Offset m mark offset
    by_range true f n e = never (cc)
    by_range false f n e =
        let o : offset ≡ ato_bits m = cc in
        let a : ato_bits m ≡ 0x1FFE → ⊥ = eqb-false _ _ f in
        let b : ato_bits m ≡ 0x1FFF → ⊥ = eqb-false _ _ n in
        record { marked = cc; bits = o; range = below (ato_bits m) o a b (omega arith) }
      where
        below : (a : ℕ) → offset ≡ a → (a ≡ 0x1FFE → ⊥) → (a ≡ 0x1FFF → ⊥) → a < mark_unit → offset ≤ largest_offset
        below a o x y l = omega arith

    by_time : (s : Bool) → eqb (ato_bits m) 0x1FFF ≡ s
        → cond s (NoTime (mark_bits m)) (cond (eqb (ato_bits m) 0x1FFE) (OverRange (mark_bits m)) (Received (mark_bits m) (ato_bits m))) ≡ Received mark offset
        → Offset m mark offset
    by_time true f e = never (cc)
    by_time false f e = by_range (eqb (ato_bits m) 0x1FFE) refl f e

    by_r : (r : Bool) → cond r NotReceived (received_of (mark_bits m) (ato_bits m)) ≡ Received mark offset → Offset m mark offset
    by_r true e = never (cc)
    by_r false e = by_time (eqb (ato_bits m) 0x1FFF) refl e
