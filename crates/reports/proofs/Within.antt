-- The metrics of a block that the walk finds are within the octets, and no more than a block may have.
-- Assumes nothing.
use Rattle.std.proofs.Common.{◌≡◌, ℕ, ◌≤◌, List, arith}
use Rattle.packet.specs.Sizes.{most_reports}
use Rattle.walk.specs.Walk.{step_at}
use Rattle.walk.specs.declared.ReportBlock.{ReportBlock}
use Rattle.packet_header.specs.declared.Cursor.{Cursor}
use Rattle.walk.proofs.Steps.{found}
use Rattle.reports.specs.Reports.{Within}
use Rattle.std.specs.Prelude.{Some, Ok}

module _ (s : List ℕ) (at : ℕ) (b : ReportBlock) (next : Cursor) (e : step_at s at ≡ Ok (Some (b, next))) where
  pub within : Within s b
  within = let f = found s at b next e in rw f.is (record { room = omega (arith, f.room) })

  pub few_reports : b.num_reports ≤ most_reports
  few_reports = let f = found s at b next e in rw f.is f.few
