-- The invariant: the requests so far and those of the places still to be read are all.
use Rattle.line_newest.proofs.Newest.{Gathering}
use Rattle.line_newest.proofs.report.Given as goal

abbrev pub invariant-loop-place : goal.invariant-loop-place
invariant-loop-place l = Gathering l.places l.requests l.n l.place-index
