-- The invariant: what is left to write from here makes of the output
-- what the whole makes of it at the start.
use Prim.Native.Nat.{◌+◌, ◌-◌, ◌*◌}
use mathlib.Core.Path.{◌≡◌}
use lib.Seq.{sets}
use Rattle.metric_rewriter.proofs.Metrics.{rewritten_octets}
use Rattle.metric_rewriter.proofs.rewrite_metrics.Given as goal

abbrev pub invariant-loop-j : goal.invariant-loop-j
invariant-loop-j l =
    sets l.out (l.at + 2 * l.j) (rewritten_octets l.packet (l.at + 2 * l.j) (l.n - l.j)) ≡ sets l.initial.out l.at (rewritten_octets l.packet l.at l.n)
