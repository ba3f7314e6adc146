-- Rules: "What a store means", "Copies", "Metric". What a reader of written feedback is told of
-- each number, rule by rule, by the accepted arrivals of its stream alone. An entry is an accepted
-- arrival with its full number; they stand in the order of the calls.
use Rattle.std.specs.Prelude.{ℕ, ◌+◌, ◌/◌, ◌%◌, ◌≤◌, ◌<◌, ◌≡◌, ◌↔◌, Result, Some, None, Ok}
use mathlib.Core.List.{List, ◌∷◌, ◌++◌, Memᴰ}
use Rattle.metric.specs.Metric.{age_of, longest_age, offset_unit, after_rts, congested}
use Rattle.metric.specs.declared.Metric.{Metric}
use Rattle.window.specs.Number.{sequence_numbers}
use Rattle.history.specs.Calls.{Accepted}
use Rattle.history.specs.Meaning.{Entry, top_of, entries_of}
use Rattle.walk.specs.declared.ReportBlock.{ReportBlock}
use Rattle.block_reader.specs.Blocks.{read_block}
use Rattle.reports.specs.declared.Reported.{Reported}
use Rattle.refusal.specs.declared.Refusal.{Refusal}
use Rattle.metric_reader.specs.Metrics.{read_metric}
use Rattle.feedback.specs.Seen.{StandsFor}
use Rattle.metric.specs.declared.Metric.TheVariants.{NotReceived, Received, OverRange, NoTime}

-- no accepted arrival had the full number n
abbrev pub NoneHad : List Entry → ℕ → Type 0
NoneHad es n = (e : Entry) → Memᴰ e es → e.full ≡ n → ⊥

-- rule "First copy": e is the first accepted arrival, in the order of the calls, that had the full
-- number n
pub record First (es : List Entry) (n : ℕ) (e : Entry) : Type 0 where
  pub before : List Entry
  pub after : List Entry
  pub order : es ≡ before ++ (e ∷ after)
  pub earlier : NoneHad before n
  pub full : e.full ≡ n

-- d is an accepted arrival that had the full number n and carried ECN-CE
pub record CarriedCE (es : List Entry) (n : ℕ) (d : Entry) : Type 0 where
  pub accepted : Memᴰ d es
  pub full : d.full ≡ n
  pub mark : d.mark ≡ congested

-- rule "ECN-CE of any copy": the mark of the full number n, where e is the first that had it, is
-- ECN-CE if any of them carried it, else the mark of the first
pub data MarkOf (es : List Entry) (n : ℕ) (e : Entry) : ℕ → Type 0 where
  carried : (d : Entry) → CarriedCE es n d → MarkOf es n e congested
  firsts : ((d : Entry) → CarriedCE es n d → ⊥) → MarkOf es n e e.mark

-- what the accepted arrivals say of the full number n at RTS, a case for each rule. The last four carry the mark
pub data Says (es : List Entry) (n rts : ℕ) : Metric → Type 0 where
  -- none of them had it: not received
  missing : NoneHad es n → Says es n rts NotReceived
  -- the first copy's age at RTS is at most 8189/1024 s: the offset is that age in 1/1024 s, rounded down
  received : (e : Entry) (t mark : ℕ) → First es n e → MarkOf es n e mark → e.time ≡ Some t
      → age_of rts t ≤ longest_age → Says es n rts (Received mark (age_of rts t / offset_unit))
  -- its age is longer, and below 2^31: over range
  long_ago : (e : Entry) (t mark : ℕ) → First es n e → MarkOf es n e mark → e.time ≡ Some t
      → longest_age < age_of rts t → age_of rts t < after_rts → Says es n rts (OverRange mark)
  -- its age is 2^31 or more, which counts as a time after RTS: no time
  afterwards : (e : Entry) (t mark : ℕ) → First es n e → MarkOf es n e mark → e.time ≡ Some t
      → after_rts ≤ age_of rts t → Says es n rts (NoTime mark)
  -- its time is unknown: no time
  untimed : (e : Entry) (mark : ℕ) → First es n e → MarkOf es n e mark → e.time ≡ None
      → Says es n rts (NoTime mark)

-- a reader who asks for the sequence number s of a stream with these accepted arrivals gets this answer
pub record AsArrived (history : List Accepted) (rts s : ℕ) (given : Result Reported Refusal) : Type 0 where
  -- the full number for which s stands: the only one of the stream's window with these 16 bits
  pub full : ℕ
  pub stands : StandsFor (top_of history) s full
  -- the answer is s and one case, which the accepted arrivals say of that full number
  pub seen : Metric
  pub answers : given ≡ Ok (record { number = s; metric = seen })
  pub says : Says (entries_of history) full rts seen
  -- not received exactly if none of them had it
  pub not_received : (given ≡ Ok (record { number = s; metric = NotReceived })) ↔ NoneHad (entries_of history) full

-- of each number that a packet reports: asking for metric j of block k, both from 0
abbrev pub ReportedAsArrived : (ℕ → List Accepted) → ℕ → List ℕ → Type 0
ReportedAsArrived history rts s =
    (k j : ℕ) (b : ReportBlock) → read_block s k ≡ Ok b → j < b.num_reports
    → AsArrived (history b.ssrc) rts ((b.begin_seq + j) % sequence_numbers) (read_metric s k j)
