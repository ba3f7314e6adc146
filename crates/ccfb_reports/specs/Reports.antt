-- Rules: "Reader", rule "Part". What `ccfb_block_metrics` answers and leaves behind its pointers:
-- from the reader's answer.
use Rattle.std.specs.Prelude.{◌*◌, [], ◌∷◌, Result, Ok, Err}
use Rattle.refusal.specs.Numbers.{number_of}
use Rattle.walk.specs.declared.ReportBlock.{ReportBlock}
use Rattle.refusal.specs.declared.Refusal.{Refusal}
use Rattle.ccfb_calls.specs.Called.{Called, called}

-- `ccfb_block_metrics`: the part's offset, and how many octets it has; both 0 where refused
abbrev pub part_called : Result ReportBlock Refusal → Called
part_called (Ok b) = called 0 (b.metrics_at ∷ 2 * b.num_reports ∷ [])
part_called (Err e) = called (number_of e) (0 ∷ 0 ∷ [])
