-- Rules: "Arrival file", "ccfbline". Taking an arrival file into a store, piece by piece.
use Rattle.std.specs.Prelude.{ℕ, List, ◌++◌, length, take}
use Rattle.std.proofs.lemmas.List.Edits.{sets}
use Rattle.arrival_file.specs.Pieces.{Feeding, feeding, taken_here}
use Rattle.recording.specs.Recorded.{Recorded, recorded, after_record}
use Rattle.intake.specs.declared.Intake.{Intake}
use Rattle.arrival_file.specs.declared.Phase.TheVariants.{Header}

-- ---- the calls

abbrev pub at_start : Intake
at_start = record { phase = Header; rts = 0; gap = 0; left = 0 }

-- the answer of `feed`, and what it leaves in the store and in the octets
pub record IntakeAfter : Type 0 where
  pub intake : Intake
  pub places : List ℕ
  pub cells : List ℕ
  pub octets : List ℕ

abbrev pub intake_after : Intake → List ℕ → List ℕ → List ℕ → IntakeAfter
intake_after i p c s = record { intake = i; places = p; cells = c; octets = s }

-- the octets that are not taken come to the front
abbrev pub kept : Feeding Recorded → List ℕ → IntakeAfter
kept f s =
    intake_after (record { phase = f.phase; rts = f.made.rts; gap = f.made.gap; left = length f.left }) f.made.places f.made.cells
    (sets s 0 f.left)

abbrev pub fed_of : List ℕ → List ℕ → Intake → List ℕ → IntakeAfter
fed_of places cells i s = kept (taken_here after_record i.phase (recorded places cells i.rts i.gap) s) s

-- ---- call after call

-- the octets that the calls so far left
abbrev pub left_of : IntakeAfter → List ℕ
left_of o = take o.intake.left o.octets

-- the next call, with what the last one left, and the next piece after those octets
abbrev pub fed_next : IntakeAfter → List ℕ → IntakeAfter
fed_next o piece = fed_of o.places o.cells o.intake (left_of o ++ piece)

-- what a caller has between two calls
abbrev pub held_in : IntakeAfter → Feeding Recorded
held_in o = feeding o.intake.phase (recorded o.places o.cells o.intake.rts o.intake.gap) (left_of o)
