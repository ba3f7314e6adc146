-- Rules: "Metric". The metric of a number of the window of a place, at RTS.
use Rattle.std.specs.Prelude.{ℕ, List}
use Rattle.metric.specs.Metric.{encode_of}
use Rattle.place_window.specs.Window.{cell_at}
use Rattle.cells.specs.Cell.{read_cell}

unfoldable pub cell_metric : List ℕ → ℕ → ℕ → ℕ → ℕ
cell_metric cells rts place number = encode_of (read_cell (cell_at cells place number)) rts
