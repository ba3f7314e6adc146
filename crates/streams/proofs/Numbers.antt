-- Full numbers and the slots of a ring. Assumes nothing.
use Prim.Native.Nat.{ℕ, ◌+◌, ◌-◌, ◌*◌, ◌%◌, ◌<◌, ◌≤◌}
use mathlib.Core.Path.{◌≡◌, refl, sym, ap, ◌∙◌}
use mathlib.Core.Bool.{Bool, true, false}
use native.Mathlib.Omega.{arith}
use native.Mathlib.Decide.{dec_le}
use borrow.Author.Tests.{leb-true, leb-false}
use Rattle.window.specs.Number.{distance_of, farthest_ahead, sequence_numbers}
use Rattle.ring.specs.Ring.{cells_of_a_place}
use Rattle.streams.specs.Full.{not_behind_of, full_of, is_too_old}

-- what a test that is not false, or not true, gives
is_true : (b : Bool) → (b ≡ false → ⊥) → b ≡ true
is_true true n = refl
is_true false n = absurd (n refl)

is_false : (b : Bool) → (b ≡ true → ⊥) → b ≡ false
is_false true n = absurd (n refl)
is_false false n = refl

not_behind : (f : ℕ) → f ≤ farthest_ahead → not_behind_of f ≡ true
not_behind f l = is_true (not_behind_of f) (λ e. omega (arith, leb-false))

behind : (f : ℕ) → farthest_ahead < f → not_behind_of f ≡ false
behind f l = is_false (not_behind_of f) (λ e. omega (arith, leb-true))

pub too_old_lem : (top full : ℕ) → full + cells_of_a_place ≤ top → is_too_old top full ≡ true
too_old_lem top full l = is_true (is_too_old top full) (λ e. omega (arith, leb-false))

pub not_too_old : (top full : ℕ) → top < full + cells_of_a_place → is_too_old top full ≡ false
not_too_old top full l = is_false (is_too_old top full) (λ e. omega (arith, leb-true))

module _ (top number : ℕ) (begun : sequence_numbers ≤ top) (low : number < sequence_numbers) where
  pub full_ahead : distance_of number (top % sequence_numbers) ≤ farthest_ahead → full_of top number ≡ top + distance_of number (top % sequence_numbers)
  unfolding full_of
  full_ahead l = rw (not_behind (distance_of number (top % sequence_numbers)) l)

  full_far : farthest_ahead < distance_of number (top % sequence_numbers) → full_of top number ≡ top + distance_of number (top % sequence_numbers) - sequence_numbers
  unfolding full_of
  full_far l = rw (behind (distance_of number (top % sequence_numbers)) l)

  -- not ahead: b numbers behind
  pub full_behind : (0 < distance_of number (top % sequence_numbers) → farthest_ahead < distance_of number (top % sequence_numbers))
      → full_of top number ≡ top - distance_of (top % sequence_numbers) number
  full_behind n =
      elim (dec_le (distance_of number (top % sequence_numbers)) farthest_ahead) [
        | yes l ↦
            let z : distance_of number (top % sequence_numbers) ≡ 0 = none (distance_of number (top % sequence_numbers)) n l in
            rw (full_ahead l) (omega arith)
        | no l ↦ rw (full_far (omega arith)) (omega arith)
      ]
    where
      none : (f : ℕ) → (0 < f → farthest_ahead < f) → f ≤ farthest_ahead → f ≡ 0
      none f n l = elim (dec_le f 0) [ yes z ↦ omega arith | no z ↦ let h = n (omega arith) in omega arith ]

  -- the low 16 bits of a full number are the sequence number
  pub full_low : full_of top number % sequence_numbers ≡ number
  full_low =
      elim (dec_le (distance_of number (top % sequence_numbers)) farthest_ahead) [
        | yes l ↦ rw (full_ahead l) (omega arith)
        | no l ↦ rw (full_far (omega arith)) (omega arith)
      ]

pub same_slot : (full number : ℕ) → full % sequence_numbers ≡ number → full % cells_of_a_place ≡ number % cells_of_a_place
same_slot full number e = omega arith

-- two numbers of one window with the same slot are one
pub apart : (top m n : ℕ) → m ≤ top → top < m + cells_of_a_place → n ≤ top → top < n + cells_of_a_place → m % cells_of_a_place ≡ n % cells_of_a_place → m ≡ n
apart top m n a b c d e = omega arith

-- d numbers back round the ring
back : (x d : ℕ) → d ≤ x → d < cells_of_a_place → (x - d) % cells_of_a_place ≡ (x % cells_of_a_place + cells_of_a_place - d) % cells_of_a_place
back x d a b = omega arith

-- of the n newest numbers of the window that ends with full, m is the one of this index, and has its slot
pub counted : (full number m n : ℕ) → full % sequence_numbers ≡ number → n ≤ cells_of_a_place → m ≤ full → full < m + n
    → m % cells_of_a_place ≡ (number + 2049 - n + (m + n - (full + 1))) % cells_of_a_place
counted full number m n e few l h =
    let s = same_slot full number e in
    let i : number + 2049 - n + (m + n - (full + 1)) ≡ number + cells_of_a_place - (full - m) = omega arith in
    let j : m ≡ full - (full - m) = omega arith in
    let g : (number + cells_of_a_place) % cells_of_a_place ≡ full % cells_of_a_place = omega arith in
    ap (λ (x : ℕ). x % cells_of_a_place) j
    ∙ back full (full - m) (omega arith) (omega arith)
    ∙ ap (λ (x : ℕ). (x + cells_of_a_place - (full - m)) % cells_of_a_place) (sym g)
    ∙ sym (back (number + cells_of_a_place) (full - m) (omega arith) (omega arith))
    ∙ ap (λ (x : ℕ). x % cells_of_a_place) (sym i)

-- an older number of the window has the slot of none of them
pub uncounted : (full number m n i : ℕ) → full % sequence_numbers ≡ number → n ≤ cells_of_a_place → m + n ≤ full → full < m + cells_of_a_place → i < n
    → m % cells_of_a_place ≡ (number + 2049 - n + i) % cells_of_a_place → ⊥
uncounted full number m n i e few l h b s = omega arith

-- cells of two places
pub other_place : (p q i j : ℕ) → i < cells_of_a_place → j < cells_of_a_place → (q ≡ p → ⊥) → cells_of_a_place * q + i ≡ cells_of_a_place * p + j → ⊥
other_place p q i j a b h e = h (omega arith)
