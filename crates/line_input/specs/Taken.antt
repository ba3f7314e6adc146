-- Rules: "ccfbline", "Arrival file". What the reads of the program leave.
use Rattle.std.specs.Prelude.{ℕ, ◌<◌, ◌≡◌, Result, Ok, Err}
use mathlib.Core.List.{List, [], ◌∷◌, foldl}
use Rattle.lists.specs.All.{All}
use Rattle.octets.specs.Octets.{Octets}
use Rattle.arrival_record.specs.Record.{record_octets}
use Rattle.intake.specs.Intake.{IntakeAfter, intake_after, at_start, fed_next, held_in}
use Rattle.intake.specs.declared.Intake.{Intake}
use Rattle.line_input.specs.Turn.{NoFault}

-- no piece was read after the file's first fault
abbrev pub StopsAtFault : IntakeAfter → List (List ℕ) → Type 0
StopsAtFault o [] = Unit {0}
StopsAtFault o (piece ∷ pieces) = NoFault o × StopsAtFault (fed_next o piece) pieces

-- Some pieces of octets, none after the file's first fault. What the program has is what the calls of `feed` leave, each
-- called with what the one before left and the next piece. That the reads gave these pieces, and why no more were read,
-- no contract can say.
pub record PiecesTaken (before after : IntakeAfter) : Type 0 where
  pub pieces : List (List ℕ)
  pub octets : All Octets pieces
  pub stops : StopsAtFault before pieces
  pub is : held_in after ≡ held_in (foldl fed_next before pieces)
  pub few : after.intake.left < record_octets

-- What was taken into the store that was lent. Of an input that could not be read, nothing is said.
abbrev pub InputTaken : {E : Type 0} → List ℕ → List ℕ → Result Intake E → List ℕ → List ℕ → List ℕ → Type 0
InputTaken places cells (Ok i) places' cells' buf' = PiecesTaken (intake_after at_start places cells []) (intake_after i places' cells' buf')
InputTaken places cells (Err e) places' cells' buf' = Unit {0}
