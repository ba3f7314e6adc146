-- Rules: "ccfbline", rule "Output". The line that is printed for a packet, as octets of ASCII: its
-- octets in lower-case hex. Every line ends with the same newline, and is put into the output in
-- the same way.
use Rattle.std.specs.Prelude.{ℕ, ◌+◌, ◌-◌, ◌/◌, ◌%◌, cond, List, [], ◌∷◌, ◌++◌, length, ltb}
use Rattle.std.proofs.lemmas.List.Edits.{sets}
use Rattle.octets.specs.Output.{OutputAfter, output_after}

-- `0`; and the digits 10 to 15 are the letters starting at `a`, which is 97
abbrev pub zero_digit : ℕ
zero_digit = 48

abbrev pub letters : ℕ
letters = 97 - 10

-- `0` to `9`, `a` to `f`
abbrev pub digit_of : ℕ → ℕ
digit_of n = cond (ltb n 10) (zero_digit + n) (letters + n)

-- two digits for each octet
unfoldable pub hex_of : List ℕ → List ℕ
hex_of [] = []
hex_of (x ∷ xs) = digit_of (x / 16) ∷ digit_of (x % 16) ∷ hex_of xs

abbrev pub newline : List ℕ
newline = 10 ∷ []

-- the line of a packet
unfoldable pub hex_line : List ℕ → List ℕ
hex_line packet = hex_of packet ++ newline

-- how many octets were written to the front of the output, and what it then holds
abbrev pub put_text : List ℕ → List ℕ → OutputAfter ℕ
put_text out text = output_after (length text) (sets out 0 text)
