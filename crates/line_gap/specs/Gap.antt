-- Rules: "ccfbline", rule "Gap". The line that is printed for the gap, as octets of ASCII: `gap N`
-- with N in decimal.
use Rattle.std.specs.Prelude.{ℕ, ◌+◌, ◌/◌, ◌%◌, cond, List, [], ◌∷◌, ◌++◌, length, ltb}
use Rattle.std.proofs.lemmas.List.Edits.{sets}
use Rattle.octets.specs.Output.{OutputAfter, output_after}
use Rattle.line_hex.specs.Hex.{zero_digit, newline}

-- `gap `
abbrev pub gap_text : List ℕ
gap_text = 103 ∷ 97 ∷ 112 ∷ 32 ∷ []

abbrev pub gap_octets : ℕ
gap_octets = 4

-- the digit of a unit, as of the tens; none where the number is below the unit, so that no number starts with 0
unfoldable pub digit_at : ℕ → ℕ → List ℕ
digit_at n unit = cond (ltb n unit) [] ((zero_digit + n / unit % 10) ∷ [])

-- a number below 100,000: the digits of the ten thousands, thousands, hundreds and tens, and that of the units
abbrev pub gap_digits : ℕ → List ℕ
gap_digits n = digit_at n 10000 ++ (digit_at n 1000 ++ (digit_at n 100 ++ (digit_at n 10 ++ ((zero_digit + n % 10) ∷ []))))

-- `gap N`
unfoldable pub gap_line : ℕ → List ℕ
gap_line gap = gap_text ++ (gap_digits gap ++ newline)

-- room for the line: a gap has five digits at most
abbrev pub gap_room : ℕ
gap_room = gap_octets + 6

-- text that was written at an offset: the offset behind it, and what the output then holds
abbrev pub put_text_at : List ℕ → ℕ → List ℕ → OutputAfter ℕ
put_text_at out at text = output_after (at + length text) (sets out at text)
