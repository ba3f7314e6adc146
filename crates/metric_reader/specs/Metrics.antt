-- Rules: "Reader". The answers about the metrics of block k, from 0, of any octets: the part of the
-- octets that holds them, and metric j of it.
use Rattle.std.specs.Prelude.{ℕ, List, [], Result, Ok, Err}
use Rattle.std.specs.Borrow.{Bor}
use Rattle.refusal.specs.Numbers.{number_of}
use Rattle.metric_part.specs.Part.{part_of}
use Rattle.walk.specs.declared.ReportBlock.{ReportBlock}
use Rattle.refusal.specs.declared.Refusal.{Refusal}
use Rattle.reports.specs.declared.Reported.{Reported}
use Rattle.reports.specs.Reports.{reported_in}
use Rattle.block_reader.specs.Blocks.{read_block}

-- the number of the refusal of block k; 0 where it is found
abbrev pub block_refusal : Result ReportBlock Refusal → ℕ
block_refusal (Ok b) = 0
block_refusal (Err e) = number_of e

-- the metrics of block k; empty where it is refused
abbrev pub metrics_part : Result ReportBlock Refusal → List ℕ → List ℕ
metrics_part (Ok b) s = part_of s b
metrics_part (Err e) s = []

-- that part, or the refusal of block k
abbrev pub found_part : Result ReportBlock Refusal → List ℕ → Result (List ℕ) Refusal
found_part (Ok b) s = Ok (part_of s b)
found_part (Err e) s = Err e

-- the reader's answer for the metrics of block k
abbrev pub read_part : List ℕ → ℕ → Result (List ℕ) Refusal
read_part s k = found_part (read_block s k) s

-- a part that is lent, as its octets
abbrev pub lent_part : Result (Bor (List ℕ)) Refusal → Result (List ℕ) Refusal
lent_part (Ok p) = Ok p.now
lent_part (Err e) = Err e

-- ---- metric j of block k, both from 0

abbrev pub reported_of : Result ReportBlock Refusal → List ℕ → ℕ → Result Reported Refusal
reported_of (Ok b) s j = reported_in b s j
reported_of (Err e) s j = Err e

-- the reader's answer for metric j of block k
abbrev pub read_metric : List ℕ → ℕ → ℕ → Result Reported Refusal
read_metric s k j = reported_of (read_block s k) s j
