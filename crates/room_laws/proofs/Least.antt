-- Neither 12 octets a number nor 20 a request can be fewer: two requests, computed at the least
-- limit. Assumes nothing.
use mathlib.Core.Path.{◌≡◌, refl}
use mathlib.Core.List.{List, [], ◌∷◌}
use Prim.Native.Nat.{ℕ, ◌≤◌}
use native.Mathlib.Omega.{arith}
use Rattle.cutting.specs.Limits.{least_limit}
use Rattle.cutting.specs.Plan.{next_block, filled_from, packets_from, plan, total_octets}
use Rattle.cutting.specs.declared.Request.{Request}
use Rattle.room_laws.specs.Room.{number_octets, request_octets, Suffice}

abbrev asking : ℕ → List Request
asking count = record { ssrc = 7; begin = 0; count = count } ∷ []

-- an empty block in a packet of its own
octets_of_none : total_octets (plan least_limit (asking 0)) ≡ 20
unfolding next_block filled_from packets_from
octets_of_none = refl

-- eleven packets of two numbers and 24 octets each
octets_of_22 : total_octets (plan least_limit (asking 22)) ≡ 264
unfolding next_block filled_from packets_from
octets_of_22 = refl

-- 20 octets a request, however many a number
pub request_octets_lem : (a b : ℕ) → Suffice a b → request_octets ≤ b
request_octets_lem a b h = omega (arith, octets_of_none, h least_limit (asking 0) (omega arith) (omega arith) (omega arith) (omega arith, tt))

-- 12 octets a number beside 20 a request
pub number_octets_lem : (a : ℕ) → Suffice a request_octets → number_octets ≤ a
number_octets_lem a h = omega (arith, octets_of_22, h least_limit (asking 22) (omega arith) (omega arith) (omega arith) (omega arith, tt))
