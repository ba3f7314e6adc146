-- Rules: "ccfbline", rule "Fault". The line that is printed for a refusal, as octets of ASCII:
-- `refused N` with the refusal's number.
use Rattle.std.specs.Prelude.{ℕ, ◌+◌, ◌/◌, ◌%◌, cond, List, [], ◌∷◌, ◌++◌, ltb}
use Rattle.refusal.specs.Numbers.{number_of}
use Rattle.refusal.specs.declared.Refusal.{Refusal}
use Rattle.line_hex.specs.Hex.{zero_digit, newline}

-- `refused `
abbrev pub refused_text : List ℕ
refused_text = 114 ∷ 101 ∷ 102 ∷ 117 ∷ 115 ∷ 101 ∷ 100 ∷ 32 ∷ []

abbrev pub refused_octets : ℕ
refused_octets = 8

-- a number below 100
abbrev pub decimal_of : ℕ → List ℕ
decimal_of n = cond (ltb n 10) ((zero_digit + n) ∷ []) ((zero_digit + n / 10) ∷ (zero_digit + n % 10) ∷ [])

-- `refused N`
unfoldable pub refused_line : Refusal → List ℕ
refused_line e = refused_text ++ (decimal_of (number_of e) ++ newline)

-- room for the line of any refusal: a number has one digit or two
abbrev pub refusal_room : ℕ
refusal_room = refused_octets + 3
