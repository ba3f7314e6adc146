-- Rules: "What a sender's store means", rule "Sent streams do not mix". What two stores say of
-- one stream, whatever else they hold.
use Rattle.std.specs.Prelude.{ℕ, ◌<◌, ◌≡◌}
use Rattle.window.specs.Number.{sequence_numbers}
use Rattle.places.specs.Held.{Unheld, HeldAt}
use Rattle.streams.specs.Reading.{Store}
use Rattle.sent_status.specs.Status.{status_asked}

-- two stores say the same of a stream
pub record SameStream (a b : Store) (ssrc : ℕ) : Type 0 where
  -- where one does not hold it, the other does not
  pub unheld : Unheld a.places ssrc → Unheld b.places ssrc
  -- where one holds it, the other does, at a place of its own, with the same highest number
  pub held : (p highest : ℕ) → HeldAt a.places ssrc p highest → (q : ℕ) × HeldAt b.places ssrc q highest
  -- every number has the same status in both
  pub statuses : (number : ℕ) → number < sequence_numbers
      → status_asked a.places a.cells ssrc number ≡ status_asked b.places b.cells ssrc number
