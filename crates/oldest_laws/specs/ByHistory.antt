-- Rules: "What a store means", rule "Oldest by history". The oldest number of a stream's window,
-- by its accepted arrivals alone. An entry is an accepted arrival with its full number.
use Rattle.std.specs.Prelude.{ℕ, ◌+◌, ◌≤◌, ◌<◌, ◌≡◌}
use mathlib.Core.List.{List, Memᴰ}
use Rattle.ring.specs.Ring.{cells_of_a_place}
use Rattle.history.specs.Calls.{Accepted}
use Rattle.history.specs.Meaning.{Entry, top_of, entries_of}
use Rattle.feedback.specs.Seen.{StandsFor}

-- the sequence number s is the oldest that arrived, of the window of a stream with these accepted
-- arrivals
pub record OldestArrived (history : List Accepted) (s : ℕ) : Type 0 where
  -- the full number for which s stands: the only one of the stream's window with these 16 bits
  pub full : ℕ
  pub stands : StandsFor (top_of history) s full
  -- an accepted arrival had it
  pub had : (e : Entry) × (Memᴰ e (entries_of history) × (e.full ≡ full))
  -- and none had a lower one of the window
  pub lowest : (e : Entry) → Memᴰ e (entries_of history) → top_of history < e.full + cells_of_a_place → full ≤ e.full
