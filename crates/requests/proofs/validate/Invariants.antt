-- The invariant: the checks starting at i give what all checks give,
-- and the places of the requests before i are found.
use Rattle.std.proofs.Common.{◌≡◌, [], take, drop}
use Rattle.requests.specs.Requests.{checked}
use Rattle.requests.proofs.Turns.{FoundTo}
use Rattle.requests.proofs.validate.Given as goal

abbrev pub invariant-loop-i : goal.invariant-loop-i
invariant-loop-i l = record {
  checked_on : checked l.places (take l.i l.requests) (drop l.i l.requests) ≡ checked l.places [] l.requests;
  found_to : FoundTo l.places l.requests l.found l.i;
}
