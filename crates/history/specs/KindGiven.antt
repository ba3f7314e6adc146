-- Rules: "Kinds of arrival", rule "Kind by history". Which kind an accepted arrival is, by the
-- history of its stream: one case for each kind.
use Rattle.std.specs.Prelude.{ℕ, ◌+◌, ◌≤◌, ◌≡◌}
use mathlib.Core.List.{List, [], Memᴰ}
use Rattle.streams.specs.Full.{full_of}
use Rattle.admission.specs.declared.ArrivalKind.{ArrivalKind}
use Rattle.admission.specs.declared.ArrivalKind.TheVariants.{First, Ahead, Late, Copy}
use Rattle.history.specs.Calls.{Accepted}
use Rattle.history.specs.Meaning.{Entry, entries_of, top_of}

-- the most numbers that an arrival can pass over
abbrev pub most_passed_over : ℕ
most_passed_over = 32766

-- past are the accepted arrivals of the stream since it took its place, and number is the one that arrives now
pub data KindGiven (past : List Accepted) (number : ℕ) : ArrivalKind → Type 0 where
  -- the stream had no place
  first : past ≡ [] → KindGiven past number First
  -- its full number is above the highest, by one more than the numbers that it passed over
  ahead : (past ≡ [] → ⊥) → (passed : ℕ) → full_of (top_of past) number ≡ top_of past + (passed + 1) → KindGiven past number (Ahead passed)
  -- one of them had its full number
  copy : (e : Entry) → Memᴰ e (entries_of past) → e.full ≡ full_of (top_of past) number → KindGiven past number Copy
  -- none of the three
  late : (past ≡ [] → ⊥) → full_of (top_of past) number ≤ top_of past
      → ((e : Entry) → Memᴰ e (entries_of past) → e.full ≡ full_of (top_of past) number → ⊥) → KindGiven past number Late
