-- The steps of the code: how far the octets at hand were taken. No statement for a caller needs these.
use Rattle.std.specs.Prelude.{ℕ, ◌≤◌, ◌≡◌, List, length, drop}
use Rattle.arrival_file.specs.Pieces.{Feeding, feeding}
use Rattle.recording.specs.declared.Taken.{Taken}
use Rattle.recording.specs.Recorded.{Recorded, recorded}

-- so far were the octets s taken
pub record TakenTo (places cells s : List ℕ) (t : Taken) (f : Feeding Recorded) : Type 0 where
  pub within : t.at ≤ length s
  pub is : feeding t.phase (recorded places cells t.rts t.gap) (drop t.at s) ≡ f
