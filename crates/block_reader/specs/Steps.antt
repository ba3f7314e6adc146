-- The steps of the code: what they find on the way to an answer. No statement for a caller needs these.
use Rattle.std.specs.Prelude.{ℕ, zero, suc, List, Option, Result, Some, None, Ok, Err}
use Rattle.packet_header.specs.declared.Cursor.{Cursor}
use Rattle.refusal.specs.declared.Refusal.{Refusal}
use Rattle.walk.specs.declared.ReportBlock.{ReportBlock}
use Rattle.walk.specs.Walk.{step_at}
use Rattle.refusal.specs.declared.Refusal.TheVariants.{NoBlock}

-- behind a block the rest; at the end there is no block, and a refusal stays
abbrev pub past_block : Result (Option (ReportBlock × Cursor)) Refusal → (ℕ → Result Cursor Refusal) → Result Cursor Refusal
past_block (Ok (Some (b, next))) rest = rest next.at
past_block (Ok None) rest = Err NoBlock
past_block (Err e) rest = Err e

-- where the walk stands after k blocks
unfoldable pub after_blocks : ℕ → List ℕ → ℕ → Result Cursor Refusal
after_blocks zero s at = Ok (record { at = at })
after_blocks (suc k) s at = past_block (step_at s at) (λ next. after_blocks k s next)
