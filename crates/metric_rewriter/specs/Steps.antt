-- The steps of the code: a metric read with its first octet as the low one. No statement for a caller needs these.
use Rattle.std.specs.Prelude.{ℕ, ◌%◌, ◌^◌, cond, ltb}
use Rattle.octets.specs.Octets.{octet_values}

-- such a metric, rewritten: R is the high bit of its first octet
abbrev pub received_low_first : ℕ
received_low_first = 2 ^ 7

abbrev pub rewrite_low_first : ℕ → ℕ
rewrite_low_first m = cond (ltb (m % octet_values) received_low_first) 0 m
