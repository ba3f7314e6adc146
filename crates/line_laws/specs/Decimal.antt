-- Rules: "ccfbline", rule "Output". What it is for a text, as octets of ASCII, to be a number in
-- decimal.
use Rattle.std.specs.Prelude.{ℕ, ◌+◌, ◌-◌, ◌*◌, ◌≤◌, ◌<◌, ◌≡◌, List, [], ◌∷◌}
use Rattle.lists.specs.All.{All}
use Rattle.line_hex.specs.Hex.{zero_digit}

-- the number that a text reads as, after the number that was read before it
unfoldable pub read_after : ℕ → List ℕ → ℕ
read_after n [] = n
read_after n (d ∷ ds) = read_after (n * 10 + (d - zero_digit)) ds

abbrev pub IsDigit : ℕ → Type 0
IsDigit d = (zero_digit ≤ d) × (d < zero_digit + 10)

-- digits alone, one at least; they read as the number; and only `0` itself starts with a 0
pub record InDecimal (n : ℕ) (text : List ℕ) : Type 0 where
  pub digits : All IsDigit text
  pub some : text ≡ [] → ⊥
  pub value : read_after 0 text ≡ n
  pub no_leading_zero : (ds : List ℕ) → text ≡ zero_digit ∷ ds → ds ≡ []
