-- The invariant: the CCFB packets passed and those of the walk from
-- here count as those of the whole walk.
use Prim.Native.Nat.{◌-◌, ◌≤◌}
use mathlib.Core.Logic.{⊎_elim}
use mathlib.Core.Path.{◌≡◌, sym, ◌∙◌}
use native.Mathlib.Omega.{arith}
use lib.ListN.{length}
use Rattle.datagram.specs.Walk.{packets_from}
use Rattle.datagram.proofs.Steps.{found_more, found_within}
use Rattle.datagram_count.specs.Count.{count_of}
use Rattle.datagram_count.specs.Steps.{counted}
use Rattle.datagram_count.proofs.Counts.{counted_none, count_one, count_other, count_end, count_broken}
use borrow.Author.Rules.{rules}
use Rattle.datagram_count.proofs.count_from.Given as goal

abbrev pub invariant-loop-p : goal.invariant-loop-p
invariant-loop-p l =
    (l.n ≤ l.at) × (counted l.n (packets_from l.datagram l.at) ≡ count_of (packets_from l.datagram l.from))

abbrev pub decreases-loop-p : goal.decreases-loop-p
decreases-loop-p l = length l.datagram - l.at
