-- Rules: "Reader". The reader's answers, from the blocks of a packet alone: where each block
-- stands, and metric j of block k. The theorems say that the reader answers so.
use Rattle.std.specs.Prelude.{ℕ, zero, suc, ◌+◌, ◌%◌, cond, List, [], ◌∷◌, length, get_or, leb, Result, Ok, Err}
use Rattle.metric.specs.Metric.{decode_of}
use Rattle.window.specs.Number.{sequence_numbers}
use Rattle.packet.specs.Packet.{Block}
use Rattle.packet.specs.Sizes.{block_header_octets, block_octets}
use Rattle.walk.specs.declared.ReportBlock.{ReportBlock}
use Rattle.metric.specs.declared.Metric.{Metric}
use Rattle.refusal.specs.declared.Refusal.{Refusal}
use Rattle.reports.specs.declared.Reported.{Reported}
use Rattle.refusal.specs.declared.Refusal.TheVariants.{NoBlock, NoNumber}

-- a block that stands at an offset: its metrics follow its header
abbrev pub laid_block : ℕ → Block → ReportBlock
laid_block at b = record {
  ssrc = b.ssrc;
  begin_seq = b.begin;
  num_reports = length b.metrics;
  metrics_at = at + block_header_octets;
}

-- blocks back to back, starting at an offset
unfoldable pub laid : ℕ → List Block → List ReportBlock
laid at [] = []
laid at (b ∷ bs) = laid_block at b ∷ laid (at + block_octets (length b.metrics)) bs

-- the metrics of block k, from 0; none where there is no block k
abbrev pub metrics_of : List Block → ℕ → List ℕ
metrics_of [] k = []
metrics_of (b ∷ bs) zero = b.metrics
metrics_of (b ∷ bs) (suc k) = metrics_of bs k

-- metric j, from 0, of the block: its number and its case
abbrev pub block_metric : Block → ℕ → Result Reported Refusal
block_metric b j =
    cond (leb (length b.metrics) j) (Err NoNumber)
    (Ok (record { number = (b.begin + j) % sequence_numbers; metric = decode_of (get_or b.metrics j 0) }))

-- metric j of block k
abbrev pub packet_metric : List Block → ℕ → ℕ → Result Reported Refusal
packet_metric [] k j = Err NoBlock
packet_metric (b ∷ bs) zero j = block_metric b j
packet_metric (b ∷ bs) (suc k) j = packet_metric bs k j

-- metric j of metrics by themselves
abbrev pub case_of : List ℕ → ℕ → Result Metric Refusal
case_of ms j = cond (leb (length ms) j) (Err NoNumber) (Ok (decode_of (get_or ms j 0)))
