-- The steps of the code: a search of cells that stand side by side. No statement for a caller
-- needs this.
use Rattle.std.specs.Prelude.{ℕ, ◌+◌, Bool, List, get_or, Option}
use Rattle.lists.specs.First.{first_from}
use Rattle.cells.specs.Cell.{read_cell}
use Rattle.oldest.specs.Oldest.{is_filled}

-- cell i of those that start at start is filled
abbrev pub filled_at : List ℕ → ℕ → ℕ → Bool
filled_at cells start i = is_filled (read_cell (get_or cells (start + i) 0))

abbrev pub first_filled : List ℕ → ℕ → ℕ → Option ℕ
first_filled cells start count = first_from (filled_at cells start) 0 count
