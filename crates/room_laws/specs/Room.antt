-- Rules: "Writer", rule "Room". How many octets of output are enough for the writer at any limit:
-- CCFB_ROOM of include/ccfb.h.
use Rattle.std.specs.Prelude.{ℕ, ◌+◌, ◌*◌, ◌≤◌, List, [], ◌∷◌, length}
use Rattle.lists.specs.All.{All}
use Rattle.ring.specs.Ring.{cells_of_a_place}
use Rattle.cutting.specs.Limits.{least_limit, most_limit, most_requests}
use Rattle.cutting.specs.Plan.{plan, total_octets}
use Rattle.cutting.specs.declared.Request.{Request}

-- octets of output for each number that is asked for, and beside them for each request
abbrev pub number_octets : ℕ
number_octets = 12

abbrev pub request_octets : ℕ
request_octets = 20

abbrev pub room : ℕ → ℕ → ℕ
room numbers requests = number_octets * numbers + request_octets * requests

-- the counts of requests, together
abbrev pub sum_of_counts : List Request → ℕ
sum_of_counts [] = 0
sum_of_counts (r ∷ rs) = r.count + sum_of_counts rs

-- the room for a list of requests
abbrev pub room_of_requests : List Request → ℕ
room_of_requests rs = room (sum_of_counts rs) (length rs)

-- `a` octets a number and `b` a request are enough at each limit from 24 to 9,000, for at most 16
-- requests of at most 2,048 numbers each. These are all requests that the writer may accept, and
-- more: here a stream may be repeated, and a range may begin anywhere.
abbrev pub Suffice : ℕ → ℕ → Type 0
Suffice a b =
    (limit : ℕ) (rs : List Request) → least_limit ≤ limit → limit ≤ most_limit
    → length rs ≤ most_requests → All (λ r. r.count ≤ cells_of_a_place) rs
    → total_octets (plan limit rs) ≤ a * sum_of_counts rs + b * length rs
