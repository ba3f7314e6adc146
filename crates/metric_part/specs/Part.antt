-- Rules: "Reader", "Walk". The part of a packet that holds the metrics of a block (rule "Part"),
-- and what each of its metrics says (rule "Metric of a part").
use Rattle.std.specs.Prelude.{ℕ, ◌+◌, ◌*◌, ◌/◌, cond, List, [], length, take, drop, leb, Result, Ok, Err}
use Rattle.octets.specs.Octets.{be16}
use Rattle.metric.specs.Metric.{decode_of}
use Rattle.walk.specs.declared.ReportBlock.{ReportBlock}
use Rattle.metric.specs.declared.Metric.{Metric}
use Rattle.refusal.specs.declared.Refusal.{Refusal}
use Rattle.refusal.specs.declared.Refusal.TheVariants.{NoNumber}

-- the part of the octets that holds the metrics of a block, 2 octets each; empty where they are not all there
abbrev pub part_of : List ℕ → ReportBlock → List ℕ
part_of s b =
    cond (leb (b.metrics_at + 2 * b.num_reports) (length s))
    (take (2 * b.num_reports) (drop b.metrics_at s)) []

-- metric j, from 0, of a part; 30 where there is none
abbrev pub case_at : List ℕ → ℕ → Result Metric Refusal
case_at xs j = cond (leb (length xs / 2) j) (Err NoNumber) (Ok (decode_of (be16 xs (2 * j))))
