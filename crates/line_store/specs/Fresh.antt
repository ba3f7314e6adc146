-- Rules: "ccfbline", rule "Records". The store of the program before the first record: four places,
-- each free, and their cells.
use Rattle.std.specs.Prelude.{ℕ, ◌*◌, List, replicate}
use Rattle.ring.specs.Ring.{cells_of_a_place}

abbrev pub line_places : ℕ
line_places = 4

abbrev pub fresh_places : List ℕ
fresh_places = replicate line_places 0

abbrev pub fresh_cells : List ℕ
fresh_cells = replicate (line_places * cells_of_a_place) 0
