use Rattle.std.proofs.Common.{[]}
use Rattle.intake.specs.Intake.{intake_after, at_start}
use Rattle.line_input.proofs.Read.{Going}
use Rattle.line_input.proofs.take_input.Given as goal

-- the program has what the pieces read so far leave
abbrev pub invariant-loop : goal.invariant-loop
invariant-loop g l = Going (intake_after at_start l.fn.places l.fn.cells []) (intake_after l.intake l.places l.cells l.buf)
