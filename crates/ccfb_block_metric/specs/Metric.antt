-- Rules: "Reader", rule "Metric j". What `ccfb_metric` answers and leaves behind its pointers: from
-- the reader's answer, and from what stood there before.
use Rattle.std.specs.Prelude.{ℕ, [], ◌∷◌, Result, Ok, Err}
use Rattle.reports.specs.declared.Reported.{Reported}
use Rattle.refusal.specs.declared.Refusal.{Refusal}
use Rattle.ccfb_calls.specs.Called.{Called, called, refused_with, case_behind}

-- sequence number, case, mark, offset
abbrev pub metric_called : Result Reported Refusal → ℕ → ℕ → ℕ → ℕ → Called
metric_called (Ok r) number₀ case mark offset = called 0 (r.number ∷ case_behind r.metric mark offset)
metric_called (Err e) number₀ case mark offset = refused_with e (number₀ ∷ case ∷ mark ∷ offset ∷ [])
