-- Two octets as a number, the first one low.
use Rattle.std.specs.Prelude.{ℕ, ◌+◌, ◌*◌, List, get_or}
use Rattle.octets.specs.Octets.{octet_values}

abbrev pub low_first : List ℕ → ℕ → ℕ
low_first s i = octet_values * get_or s (i + 1) 0 + get_or s i 0
