-- The steps of the code: a block whose place is found once. No statement for a caller needs these.
use Rattle.std.specs.Prelude.{ℕ, ◌+◌, ◌-◌, ◌%◌, min, List, [], ◌∷◌, slice_index, slice_set, Option, Some, None}
use Rattle.ring.specs.Ring.{cells_of_a_place}
use Rattle.window.specs.Number.{sequence_numbers}
use Rattle.places.specs.Place.{highest_at, find_of}
use Rattle.packet.specs.Packet.{Block}
use Rattle.sent_word.specs.Word.{word_reported}
use Rattle.sent_block.specs.Reports.{reported_at}

-- the metrics of a block whose numbers are in the window, where the highest number is d above that of
-- metric 0: from the first up to the end, of n
abbrev pub first_in_window : ℕ → ℕ
first_in_window d = d - (cells_of_a_place - 1)

abbrev pub end_in_window : ℕ → ℕ → ℕ
end_in_window d n = min n (d + 1)

-- metrics of a block, starting with metric j
unfoldable pub entered_from : ℕ → ℕ → ℕ → List ℕ → ℕ → ℕ → List ℕ → List ℕ
entered_from p highest rts cells begin j [] = cells
entered_from p highest rts cells begin j (m ∷ ms) =
    entered_from p highest rts (reported_at p highest rts cells ((begin + j) % sequence_numbers) m) begin (j + 1) ms

-- metrics entered in cells that lie side by side, starting at a place in the list
unfoldable pub run_entered : ℕ → List ℕ → ℕ → List ℕ → List ℕ
run_entered rts cells at [] = cells
run_entered rts cells at (m ∷ ms) = run_entered rts (slice_set cells at (word_reported m rts (slice_index cells at))) (at + 1) ms

abbrev pub block_entered : ℕ → ℕ → ℕ → List ℕ → Block → List ℕ
block_entered p highest rts cells b = entered_from p highest rts cells b.begin 0 b.metrics

abbrev pub block_taken_at : Option ℕ → List ℕ → ℕ → List ℕ → Block → List ℕ
block_taken_at (Some p) places rts cells b = block_entered p (highest_at places p) rts cells b
block_taken_at None places rts cells b = cells

unfoldable pub block_taken : List ℕ → ℕ → List ℕ → Block → List ℕ
block_taken places rts cells b = block_taken_at (find_of places b.ssrc) places rts cells b
