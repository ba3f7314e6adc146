-- The part that holds a block's metrics, in each of its cases. Assumes nothing.
use Prim.Native.Nat.{ℕ, ◌+◌, ◌-◌, ◌*◌, ◌<◌, ◌≤◌}
use mathlib.Core.Path.{◌≡◌}
use mathlib.Core.List.{List, []}
use native.Mathlib.Nat.{add-sub_cancel_left}
use borrow.Author.Tests.{le-leb, lt-leb}
use lib.ListN.{length, take, drop}
use Rattle.walk.specs.declared.ReportBlock.{ReportBlock}
use Rattle.metric_part.specs.Part.{part_of}

module _ (s : List ℕ) (b : ReportBlock) where
  pub part_held : b.metrics_at + 2 * b.num_reports ≤ length s
      → take (b.metrics_at + 2 * b.num_reports - b.metrics_at) (drop b.metrics_at s) ≡ part_of s b
  part_held h = rw add-sub_cancel_left (simp (le-leb (b.metrics_at + 2 * b.num_reports) (length s) h))

  pub part_not_held : length s < b.metrics_at + 2 * b.num_reports → [] ≡ part_of s b
  part_not_held h = simp (lt-leb (b.metrics_at + 2 * b.num_reports) (length s) h)
