-- Rules: "Packet". Numbers of 16 and 32 bits as octets, the highest octet first (big-endian).
-- `sets out at vs` of `lib.Seq` is `out` with `vs` written starting at the offset `at`.
use Rattle.std.specs.Prelude.{ℕ, ◌+◌, ◌*◌, ◌/◌, ◌%◌, ◌^◌, ◌<◌, List, [], ◌∷◌, ◌++◌, get_or}
use Rattle.lists.specs.All.{All}

-- how many values an octet has, and how many a half of a 32-bit number
abbrev pub octet_values : ℕ
octet_values = 2 ^ 8

abbrev pub half_values : ℕ
half_values = 2 ^ 16

-- a list of octets
abbrev pub Octets : List ℕ → Type 0
Octets s = All (λ o. o < octet_values) s

-- the number whose octets stand at i
unfoldable pub be16 : List ℕ → ℕ → ℕ
be16 s i = octet_values * get_or s i 0 + get_or s (i + 1) 0

unfoldable pub be32 : List ℕ → ℕ → ℕ
be32 s i = half_values * be16 s i + be16 s (i + 2)

-- the octets of a number
abbrev pub octets16 : ℕ → List ℕ
octets16 n = n / octet_values ∷ n % octet_values ∷ []

abbrev pub octets32 : ℕ → List ℕ
octets32 n = octets16 (n / half_values) ++ octets16 (n % half_values)
