-- Rules: "Reader", rule "Metric j". Metric j of a block, from 0, by its number and its case; 30
-- where there is none.
use Rattle.std.specs.Prelude.{ℕ, ◌+◌, ◌*◌, ◌%◌, ◌≤◌, cond, List, length, nat_le, Result, Ok, Err}
use Rattle.octets.specs.Octets.{be16}
use Rattle.metric.specs.Metric.{decode_of}
use Rattle.window.specs.Number.{sequence_numbers}
use Rattle.walk.specs.declared.ReportBlock.{ReportBlock}
use Rattle.reports.specs.declared.Reported.{Reported}
use Rattle.refusal.specs.declared.Refusal.{Refusal}
use Rattle.refusal.specs.declared.Refusal.TheVariants.{NoNumber}

-- the metrics of a block are within the octets
pub record Within (s : List ℕ) (b : ReportBlock) : Type 0 where
  pub room : b.metrics_at + 2 * b.num_reports ≤ length s

-- the number of metric j is j more than begin_seq, and 0 follows 65535
abbrev pub reported_in : ReportBlock → List ℕ → ℕ → Result Reported Refusal
reported_in b s j =
    cond (nat_le b.num_reports j) (Err NoNumber)
    (Ok (record { number = (b.begin_seq + j) % sequence_numbers; metric = decode_of (be16 s (b.metrics_at + 2 * j)) }))
