-- Rules: "Writer", "Requests". What a caller may ask of the writer: a limit on the octets of a
-- packet from 24 to 9,000 (rule "Limit as given"), and at most 16 requests.
use Rattle.std.specs.Prelude.{ℕ}

-- the least limit holds a packet that reports a number
abbrev pub least_limit : ℕ
least_limit = 24

abbrev pub most_limit : ℕ
most_limit = 9000

abbrev pub most_requests : ℕ
most_requests = 16
