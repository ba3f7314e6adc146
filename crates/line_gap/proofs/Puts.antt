-- Laws for writing the line of a gap. Assumes nothing.
use Prim.Native.Nat.{ℕ, ◌+◌, ◌/◌, ◌%◌, ◌<◌, ◌≤◌}
use mathlib.Core.Path.{◌≡◌, ap, ◌∙◌}
use mathlib.Core.List.{List, [], ◌∷◌, ◌++◌, append_assoc}
use native.Mathlib.Omega.{arith}
use native.Mathlib.Decide.{dec_lt}
use native.Mathlib.Numerals.{add-one}
use borrow.Author.Tests.{lt-ltb, le-ltb}
use lib.ListN.{length, set, length-append}
use lib.Seq.{sets}
use Rattle.octets.specs.Output.{OutputAfter, output_after}
use Rattle.octets.proofs.Sets.{sets_append}
use Rattle.line_hex.specs.Hex.{zero_digit, newline}
use Rattle.line_gap.specs.Gap.{gap_text, digit_at, gap_digits, gap_line, gap_room, put_text_at}

-- ---- one digit

module _ (n unit : ℕ) where
  pub digit_none : n < unit → digit_at n unit ≡ []
  unfolding digit_at
  digit_none l = rw (lt-ltb n unit l)

  pub digit_some : unit ≤ n → digit_at n unit ≡ (zero_digit + n / unit % 10) ∷ []
  unfolding digit_at
  digit_some l = rw (le-ltb n unit l)

  digit_length : length (digit_at n unit) ≤ 1
  digit_length =
      elim (dec_lt n unit) [
        | yes l ↦ rw (digit_none l) (omega arith)
        | no l ↦ rw (digit_some (omega arith)) (omega arith)
      ]

-- ---- text after text

pub then_put : (out mid last : List ℕ) (at i j : ℕ) (xs ys : List ℕ) → output_after i mid ≡ put_text_at out at xs → output_after j last ≡ put_text_at mid i ys
    → output_after j last ≡ put_text_at out at (xs ++ ys)
then_put out mid last at i j xs ys p q =
    let e : i ≡ at + length xs = ap (λ (o : OutputAfter ℕ). o.answer) p in
    let m : mid ≡ sets out at xs = ap (λ (o : OutputAfter ℕ). o.output) p in
    let n : at + length (xs ++ ys) ≡ at + length xs + length ys = rw (length-append xs ys) (omega arith) in
    q ∙ rw (m, e, n, sets_append xs ys out at)

-- the line: the word, four digits that may be missing, the last digit and the newline
pub gap_put : (out w a b c d : List ℕ) (at i j k e n : ℕ) → w ≡ sets out at gap_text
    → output_after i a ≡ put_text_at w (at + 4) (digit_at n 10000) → output_after j b ≡ put_text_at a i (digit_at n 1000)
    → output_after k c ≡ put_text_at b j (digit_at n 100) → output_after e d ≡ put_text_at c k (digit_at n 10)
    → output_after (e + 2) (set (set d e (zero_digit + n % 10)) (e + 1) 10) ≡ put_text_at out at (gap_line n)
unfolding gap_line
gap_put out w a b c d at i j k e n word first second third fourth =
    let g : output_after (at + 4) w ≡ put_text_at out at gap_text = rw word in
    let g₁ = then_put out w a at (at + 4) i gap_text (digit_at n 10000) g first in
    let g₂ = then_put out a b at i j (gap_text ++ digit_at n 10000) (digit_at n 1000) g₁ second in
    let g₃ = then_put out b c at j k ((gap_text ++ digit_at n 10000) ++ digit_at n 1000) (digit_at n 100) g₂ third in
    let g₄ = then_put out c d at k e (((gap_text ++ digit_at n 10000) ++ digit_at n 1000) ++ digit_at n 100) (digit_at n 10) g₃ fourth in
    let last : output_after (e + 2) (set (set d e (zero_digit + n % 10)) (e + 1) 10) ≡ put_text_at d e ((zero_digit + n % 10) ∷ 10 ∷ []) = rw (add-one e) in
    then_put out d _ at e (e + 2) ((((gap_text ++ digit_at n 10000) ++ digit_at n 1000) ++ digit_at n 100) ++ digit_at n 10)
    ((zero_digit + n % 10) ∷ 10 ∷ []) g₄ last
    ∙ ap (put_text_at out at) same
  where
    same : ((((gap_text ++ digit_at n 10000) ++ digit_at n 1000) ++ digit_at n 100) ++ digit_at n 10) ++ ((zero_digit + n % 10) ∷ 10 ∷ [])
        ≡ gap_text ++ (gap_digits n ++ newline)
    same = simp append_assoc

pub length_gap : (n : ℕ) → length (gap_line n) ≤ gap_room
unfolding gap_line
length_gap n =
    simp length-append
    (omega (arith, digit_length n 10000, digit_length n 1000, digit_length n 100, digit_length n 10))
