-- Rules: "What a store means", rule "Streams do not mix". What two stores say of one stream,
-- whatever else they hold.
use Rattle.std.specs.Prelude.{ℕ, ◌≡◌}
use Rattle.places.specs.Held.{Unheld, HeldAt}
use Rattle.cell_metrics.specs.Metrics.{cell_metric}
use Rattle.streams.specs.Reading.{Store}

-- two stores say the same of a stream
pub data SameStream (a b : Store) (ssrc : ℕ) : Type 0 where
  -- neither holds it
  unheld : Unheld a.places ssrc → Unheld b.places ssrc → SameStream a b ssrc
  -- or both hold it, each at a place of its own, with one highest number, and the cell of every number, of the window
  -- or not, gives the same metric at every RTS
  held : (p q highest : ℕ) → HeldAt a.places ssrc p highest → HeldAt b.places ssrc q highest
      → ((rts number : ℕ) → cell_metric a.cells rts p number ≡ cell_metric b.cells rts q number)
      → SameStream a b ssrc
