-- The steps of the code: block by block from a cursor. No statement for a caller needs these.
use Rattle.std.specs.Prelude.{ℕ, List, map}
use Rattle.walk.specs.Walk.{Walked, walked, stopped}
use Rattle.reader.specs.Reading.{block_in}
use Rattle.sent_block.specs.Reports.{reports_of, all_reported}

-- a walk that came to the end of the blocks
abbrev pub NotStopped : Walked → Type 0
NotStopped (walked bs) = Unit {0}
NotStopped (stopped e) = ⊥

-- the cells after the blocks of a walk
abbrev pub blocks_taken : List ℕ → ℕ → List ℕ → List ℕ → Walked → List ℕ
blocks_taken places rts s cells (walked bs) = all_reported places rts cells (reports_of (map (block_in s) bs))
blocks_taken places rts s cells (stopped e) = cells
