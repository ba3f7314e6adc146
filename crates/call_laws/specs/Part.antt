-- Rules: "Reader", "Walk". The octets at an offset of a packet s that a call has given: they are
-- the part with the metrics of block k (rules "Part", "Metric of a part").
use Rattle.std.specs.Prelude.{ℕ, ◌+◌, ◌*◌, ◌%◌, ◌<◌, ◌≤◌, ◌≡◌, List, [], ◌∷◌, length, take, drop, Result, Ok, Err}
use Rattle.refusal.specs.Numbers.{number_of}
use Rattle.refusal.specs.declared.Refusal.{Refusal}
use Rattle.window.specs.Number.{sequence_numbers}
use Rattle.walk.specs.declared.ReportBlock.{ReportBlock}
use Rattle.metric_part.specs.Part.{case_at}
use Rattle.metric.specs.declared.Metric.{Metric}
use Rattle.reports.specs.declared.Reported.{Reported}
use Rattle.block_reader.specs.Blocks.{read_block}
use Rattle.metric_reader.specs.Metrics.{block_refusal, metrics_part, read_metric}
use Rattle.ccfb_calls.specs.Called.{Called, called, refused_with}
use Rattle.ccfb_block_metric.specs.Metric.{metric_called}
use Rattle.ccfb_walk.specs.Walk.{metric_at_called}
use Rattle.refusal.specs.declared.Refusal.TheVariants.{NoNumber}

-- as many octets, starting at an offset
abbrev pub octets_at : List ℕ → ℕ → ℕ → List ℕ
octets_at s at size = take size (drop at s)

-- the octets of a block's metrics, by the offset and the count that the walk gives: 2 octets a number
abbrev pub metrics_given : List ℕ → ReportBlock → List ℕ
metrics_given s b = octets_at s b.metrics_at (2 * b.num_reports)

-- the case that a part holds, with the number that it is of
abbrev pub numbered : ℕ → Result Metric Refusal → Result Reported Refusal
numbered number (Ok m) = Ok (record { number = number; metric = m })
numbered number (Err e) = Err e

-- an answer with one more number behind a pointer, in front of the others
abbrev pub with_number : ℕ → Called → Called
with_number number c = called c.answer (number ∷ c.behind)

-- metric j of a block is of the number begin_seq + j, and 0 follows 65535
abbrev pub number_given : ReportBlock → ℕ → ℕ
number_given b j = (b.begin_seq + j) % sequence_numbers

-- the octets that b gives are all within s, and they are the part of block k: metric j of them is the reader's metric j
-- of block k
pub record HoldsMetrics (s : List ℕ) (k : ℕ) (b : ReportBlock) : Type 0 where
  pub size : length (metrics_given s b) ≡ 2 * b.num_reports
  pub part : metrics_given s b ≡ metrics_part (read_block s k) s
  pub metric : (j : ℕ) → read_metric s k j ≡ numbered (number_given b j) (case_at (metrics_given s b) j)

-- the same of the calls: `ccfb_metric_at`, lent the octets that b gives, answers as `ccfb_metric` for k and j and leaves
-- the same case, mark and offset behind its pointers; where block k has no number j it answers 30
pub record AnswersMetrics (s : List ℕ) (k : ℕ) (b : ReportBlock) : Type 0 where
  pub held : (j : ℕ) → j < b.num_reports → (number case mark offset : ℕ)
      → metric_called (read_metric s k j) number case mark offset
      ≡ with_number (number_given b j) (metric_at_called (case_at (metrics_given s b) j) case mark offset)
  pub past : (j : ℕ) → b.num_reports ≤ j → (case mark offset : ℕ)
      → metric_at_called (case_at (metrics_given s b) j) case mark offset ≡ refused_with NoNumber (case ∷ mark ∷ offset ∷ [])

-- what `ccfb_block_metrics` answers, and the offset and the length that it gives, belong to block k: the octets there
-- are the part that `block_metrics` returns, and the answer is the number of its refusal, or 0
pub record PartGiven (s : List ℕ) (k given at size : ℕ) : Type 0 where
  pub part : octets_at s at size ≡ metrics_part (read_block s k) s
  pub octets : length (metrics_part (read_block s k) s) ≡ size
  pub refusal : given ≡ block_refusal (read_block s k)
  pub refused : (e : Refusal) → read_block s k ≡ Err e
      → (given ≡ number_of e) × (at ≡ 0) × (size ≡ 0) × (metrics_part (read_block s k) s ≡ [])
