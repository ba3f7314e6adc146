-- The digits of a line `gap N` are N in decimal. Assumes nothing.
use Prim.Native.Nat.{ℕ, ◌+◌, ◌-◌, ◌*◌, ◌/◌, ◌%◌, ◌≤◌, ◌<◌}
use mathlib.Core.Path.{◌≡◌, refl, sym, ap, ◌∙◌}
use mathlib.Core.List.{List, [], ◌∷◌, ◌++◌, append-ne-nil_of_right_ne-nil, cons≢nil, head-eq_of_cons-eq, tail-eq_of_cons-eq}
use native.Mathlib.Omega.{arith}
use native.Mathlib.Decide.{dec_lt}
use Rattle.lists.specs.All.{All}
use Rattle.lists.proofs.All.{all_join}
use Rattle.line_hex.specs.Hex.{zero_digit}
use Rattle.line_gap.specs.Gap.{digit_at, gap_digits}
use Rattle.line_gap.proofs.Puts.{digit_none, digit_some}
use Rattle.line_laws.specs.Decimal.{read_after, IsDigit, InDecimal}

read_append : (n : ℕ) (xs ys : List ℕ) → read_after n (xs ++ ys) ≡ read_after (read_after n xs) ys
unfolding read_after
read_append n [] ys = refl
read_append n (x ∷ xs) ys = read_append (n * 10 + (x - zero_digit)) xs ys

read_none : (n : ℕ) → read_after n [] ≡ n
unfolding read_after
read_none n = refl

read_one : (n d : ℕ) → read_after n (d ∷ []) ≡ n * 10 + (d - zero_digit)
unfolding read_after
read_one n d = refl

-- ---- the digit of a unit
digit_is : (n unit : ℕ) → All IsDigit (digit_at n unit)
digit_is n unit =
    elim (dec_lt n unit) [
      | yes l ↦ rw (digit_none n unit l) tt
      | no l ↦ rw (digit_some n unit (omega arith)) ((omega arith, omega arith), tt)
    ]

-- before is n without the digit of this unit and those below it: with that digit, n / unit is read
digit_read : (n unit before : ℕ) (rest : List ℕ) → before ≡ n / unit / 10 → (n < unit → n / unit ≡ 0)
    → read_after before (digit_at n unit ++ rest) ≡ read_after (n / unit) rest
digit_read n unit before rest e small =
    read_append before (digit_at n unit) rest ∙ ap (λ (x : ℕ). read_after x rest) here
  where
    here : read_after before (digit_at n unit) ≡ n / unit
    here =
        elim (dec_lt n unit) [
          | yes l ↦ let z = small l in rw (digit_none n unit l, read_none before) (omega arith)
          | no l ↦ rw (digit_some n unit (omega arith), read_one before (zero_digit + n / unit % 10)) (omega arith)
        ]

-- ---- no 0 in front
abbrev Leads : List ℕ → Type 0
Leads text = (ds : List ℕ) → text ≡ zero_digit ∷ ds → ds ≡ []

leads : (n unit : ℕ) (rest : List ℕ) → (unit ≤ n → 0 < n / unit % 10) → (n < unit → Leads rest) → Leads (digit_at n unit ++ rest)
leads n unit rest high low =
    elim (dec_lt n unit) [
      | yes l ↦ rw (digit_none n unit l) (low l)
      | no l ↦
          let h = high (omega arith) in
          rw (digit_some n unit (omega arith)) (λ ds e. let z = head-eq_of_cons-eq e in absurd (omega arith))
    ]

module _ (n : ℕ) (l : n < 100000) where
  value : read_after 0 (gap_digits n) ≡ n
  value =
      digit_read n 10000 0 _ (omega arith) (λ s. omega arith)
      ∙ digit_read n 1000 (n / 10000) _ (omega arith) (λ s. omega arith)
      ∙ digit_read n 100 (n / 1000) _ (omega arith) (λ s. omega arith)
      ∙ digit_read n 10 (n / 100) _ (omega arith) (λ s. omega arith)
      ∙ read_one (n / 10) (zero_digit + n % 10)
      ∙ omega arith

  pub in_decimal : InDecimal n (gap_digits n)
  in_decimal =
      record {
        digits =
            all_join IsDigit (digit_at n 10000) _ (digit_is n 10000) (all_join IsDigit (digit_at n 1000) _ (digit_is n 1000)
            (all_join IsDigit (digit_at n 100) _ (digit_is n 100) (all_join IsDigit (digit_at n 10) _ (digit_is n 10) ((omega arith, omega arith), tt))));
        some =
            append-ne-nil_of_right_ne-nil (digit_at n 10000) (append-ne-nil_of_right_ne-nil (digit_at n 1000)
            (append-ne-nil_of_right_ne-nil (digit_at n 100) (append-ne-nil_of_right_ne-nil (digit_at n 10) cons≢nil)));
        value = value;
        no_leading_zero =
            leads n 10000 _ (λ h. omega arith)
            (λ a. leads n 1000 _ (λ h. omega arith) (λ b. leads n 100 _ (λ h. omega arith) (λ c. leads n 10 _ (λ h. omega arith) (λ d ds e. sym (tail-eq_of_cons-eq e)))));
      }
