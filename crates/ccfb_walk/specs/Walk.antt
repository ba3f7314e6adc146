-- Rules: "Walk". What the calls for C that walk over a packet answer and leave behind their
-- pointers: from the walk's answer, and from what stood there before.
use Rattle.std.specs.Prelude.{ℕ, List, [], ◌∷◌, Option, Result, Some, None, Ok, Err}
use Rattle.metric.specs.declared.Metric.{Metric}
use Rattle.refusal.specs.declared.Refusal.{Refusal}
use Rattle.packet_header.specs.declared.Cursor.{Cursor}
use Rattle.walk.specs.declared.ReportBlock.{ReportBlock}
use Rattle.ccfb_calls.specs.Called.{Called, called, refused_with, case_behind}
use Rattle.refusal.specs.declared.Refusal.TheVariants.{NoBlock}

-- `ccfb_metric_at`: case, mark, offset
abbrev pub metric_at_called : Result Metric Refusal → ℕ → ℕ → ℕ → Called
metric_at_called (Ok m) case mark offset = called 0 (case_behind m mark offset)
metric_at_called (Err e) case mark offset = refused_with e (case ∷ mark ∷ offset ∷ [])

-- `ccfb_first_block`: the offset of the first block
abbrev pub first_called : Result Cursor Refusal → List ℕ → Called
first_called (Ok c) before = called 0 (c.at ∷ [])
first_called (Err e) before = refused_with e before

-- `ccfb_next_block`: the offset behind the block; SSRC, begin_seq and num_reports; the offset of its metrics
abbrev pub next_called : (Result (Option (ReportBlock × Cursor)) Refusal) → List ℕ → Called
next_called (Ok (Some (b, next))) before =
    called 0 (next.at ∷ b.ssrc ∷ b.begin_seq ∷ b.num_reports ∷ b.metrics_at ∷ [])
next_called (Ok None) before = refused_with NoBlock before
next_called (Err e) before = refused_with e before
