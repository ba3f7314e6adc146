-- Rules: "Arrivals and the window". Sequence numbers, and how one moves the window of its stream.
use Rattle.std.specs.Prelude.{ℕ, ◌+◌, ◌-◌, ◌%◌, ◌^◌, Bool, false, cond, ◌==◌, nat_le, nat_lt}
use Rattle.ring.specs.Ring.{cells_of_a_place}
use Rattle.window.specs.declared.Move.{Move}
use Rattle.window.specs.declared.Move.TheVariants.{Ahead, Within, TooOld}

-- a sequence number has 16 bits
abbrev pub sequence_numbers : ℕ
sequence_numbers = 2 ^ 16

-- (a - b) modulo 65536
abbrev pub distance_of : ℕ → ℕ → ℕ
distance_of a b = (a + sequence_numbers - b) % sequence_numbers

-- the farthest that a number can be ahead of the highest one
abbrev pub farthest_ahead : ℕ
farthest_ahead = 2 ^ 15 - 1

-- rule "Ahead": f from 1 to 32,767
abbrev pub is_ahead : ℕ → Bool
is_ahead f = cond (f == 0) false (nat_le f farthest_ahead)

-- rules "Ahead", "In the window" and "Too old", by f and b: how far the number is ahead of the
-- highest, and how far behind it
abbrev pub move_by : ℕ → ℕ → Move
move_by f b = cond (is_ahead f) (Ahead f) (cond (nat_lt b cells_of_a_place) (Within b) TooOld)

unfoldable pub move_of : ℕ → ℕ → Move
move_of highest number = move_by (distance_of number highest) (distance_of highest number)
