-- Rules: "What a store means", rule "Full number". A full number is a sequence number, but without
-- wrapping.
use Rattle.std.specs.Prelude.{ℕ, ◌+◌, ◌-◌, ◌%◌, max, Bool, cond, List, [], ◌∷◌, leb}
use Rattle.ring.specs.Ring.{cells_of_a_place}
use Rattle.window.specs.Number.{distance_of, sequence_numbers, farthest_ahead}

-- f from 0 to 32,767
abbrev pub not_behind_of : ℕ → Bool
not_behind_of f = leb f farthest_ahead

-- f numbers ahead of the highest, or 65536 - f behind it
abbrev pub counted_on : ℕ → ℕ → ℕ
counted_on top f = cond (not_behind_of f) (top + f) (top + f - sequence_numbers)

-- that of a sequence number, by the highest full number before it
unfoldable pub full_of : ℕ → ℕ → ℕ
full_of top number = counted_on top (distance_of number (top % sequence_numbers))

-- the first full number of a stream: high enough that no number of its window goes below 0
abbrev pub first_full : ℕ → ℕ
first_full number = sequence_numbers + number

-- the lowest number of the lowest window of a stream
abbrev pub lowest_full : ℕ
lowest_full = sequence_numbers - (cells_of_a_place - 1)

-- rule "Too old": the full number is below the window of the 2,048 highest
abbrev pub is_too_old : ℕ → ℕ → Bool
is_too_old top full = leb (full + cells_of_a_place) top

-- ---- the full numbers of sequence numbers that are counted on in a row, and the highest

-- from a highest full number on
unfoldable pub fulls_from : ℕ → List ℕ → List ℕ
fulls_from top [] = []
fulls_from top (number ∷ more) = let full = full_of top number in full ∷ fulls_from (max top full) more

unfoldable pub top_from : ℕ → List ℕ → ℕ
top_from top [] = top
top_from top (number ∷ more) = top_from (max top (full_of top number)) more

-- from the first of a stream on
abbrev pub fulls_of : List ℕ → List ℕ
fulls_of [] = []
fulls_of (number ∷ more) = first_full number ∷ fulls_from (first_full number) more

abbrev pub top_of : List ℕ → ℕ
top_of [] = 0
top_of (number ∷ more) = top_from (first_full number) more
