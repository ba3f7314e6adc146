-- The invariant: the metrics so far are decoded.
use mathlib.Core.Path.{◌≡◌}
use Rattle.reader.specs.Reading.{metrics_at_of}
use Rattle.metric_arrays.specs.Arrays.{arrays, decoded_into}
use Rattle.metric_arrays.proofs.fill.Given as goal

abbrev pub invariant-loop-j : goal.invariant-loop-j
invariant-loop-j l =
    arrays l.cases l.marks l.offsets ≡ decoded_into (metrics_at_of l.part 0 l.j) (arrays l.initial.cases l.initial.marks l.initial.offsets)
