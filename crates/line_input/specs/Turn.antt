-- Rules: "ccfbline", "Arrival file". What one read of the program leads to, and what it leaves for
-- the next one.
use Rattle.std.specs.Prelude.{ℕ, ◌<◌, ◌≡◌, List, length, Result, Ok, Err}
use Rattle.std.specs.declared.ops.ControlFlow.{ControlFlow}
use Rattle.std.specs.declared.ops.ControlFlow.TheVariants.{Continue, Break}
use Rattle.refusal.specs.declared.Refusal.{Refusal}
use Rattle.octets.specs.Octets.{Octets}
use Rattle.arrival_record.specs.Record.{record_octets}
use Rattle.arrival_file.specs.declared.Phase.TheVariants.{Faulty}
use Rattle.intake.specs.declared.Intake.{Intake}
use Rattle.intake.specs.Intake.{IntakeAfter, intake_after, fed_next, held_in}

-- the octets that the program reads into
abbrev pub buffer_octets : ℕ
buffer_octets = 65536

-- fewer octets than a record has are left, so there is room to read
abbrev pub Short : {E : Type 0} → Result (ControlFlow Intake Intake) E → Type 0
Short (Ok (Continue i)) = i.left < record_octets
Short (Ok (Break i)) = i.left < record_octets
Short (Err e) = Unit {0}

-- A read gave a piece of the file. What the program then has is what `feed` leaves, called with what there was before and
-- this piece. No contract can say which octets a read gives; that they are the next of the input is tested.
pub record PieceTaken (before after : IntakeAfter) : Type 0 where
  pub piece : List ℕ
  pub octets : Octets piece
  pub some : 0 < length piece
  pub is : held_in after ≡ held_in (fed_next before piece)

-- the file has no fault so far
abbrev pub NoFault : IntakeAfter → Type 0
NoFault o = (e : Refusal) → o.intake.phase ≡ Faulty e → ⊥

-- After the last read: nothing changed, as where a read gives no octets, or the piece has the file's first fault.
pub data LastTaken (before after : IntakeAfter) : Type 0 where
  at_end : held_in after ≡ held_in before → LastTaken before after
  at_fault : (e : Refusal) → after.intake.phase ≡ Faulty e → PieceTaken before after → LastTaken before after

-- Of an input that could not be read, nothing is said.
abbrev pub TurnTaken : {E : Type 0} → IntakeAfter → Result (ControlFlow Intake Intake) E → List ℕ → List ℕ → List ℕ → Type 0
TurnTaken before (Ok (Continue next)) places cells buf = PieceTaken before (intake_after next places cells buf) × NoFault (intake_after next places cells buf)
TurnTaken before (Ok (Break last)) places cells buf = LastTaken before (intake_after last places cells buf)
TurnTaken before (Err e) places cells buf = Unit {0}
