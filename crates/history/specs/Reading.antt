-- Rules: "What a store means". A store of arrivals reads as the machine says: place by place, and
-- each cell of each window.
use Rattle.std.specs.Prelude.{ℕ, List, Option}
use Rattle.metric.specs.declared.Arrived.{Arrived}
use Rattle.places.specs.declared.Stream.{Stream}
use Rattle.streams.specs.Model.{Place}
use Rattle.streams.specs.Reading.{Store, Meaning}
use Rattle.cells.specs.Cell.{read_cell}
use Rattle.history.specs.Meaning.{Entry, cell_by}
use Rattle.streams.specs.Reading as streams

-- what the words of a store of arrivals say, and what its entries say
abbrev pub arrival_meaning : Meaning Entry (Option Arrived)
arrival_meaning = record { full = λ (e : Entry). e.full; read = read_cell; shown = cell_by }

-- the place k of a store, read as h, with its cells, has the stream's SSRC, its highest full number and its
-- entries
abbrev pub Holds : List ℕ → ℕ → Option Stream → ℕ → ℕ → List Entry → Type 0
Holds cells k h ssrc top es = streams.Holds arrival_meaning cells k h ssrc top es

abbrev pub Reads : Store → List (Place Entry) → Type 0
Reads st ps = streams.Reads arrival_meaning st ps
