-- The steps of the code: what they write on the way. No statement for a caller needs these.
use Rattle.std.specs.Prelude.{ℕ, zero, suc, List, [], ◌++◌, Option, Result, Some, None, Ok, Err}
use Rattle.packet.specs.Packet.{encode_block}
use Rattle.walk.specs.Walk.{step_at}
use Rattle.walk.specs.declared.ReportBlock.{ReportBlock}
use Rattle.packet_header.specs.declared.Cursor.{Cursor}
use Rattle.refusal.specs.declared.Refusal.{Refusal}
use Rattle.reader.specs.Reading.{block_in}
use Rattle.rewriter.specs.Rewrite.{rewrite_block}

-- what is made of a block; of an end or a refusal nothing
abbrev pub on_block : Result (Option (ReportBlock × Cursor)) Refusal → (ReportBlock → ℕ → List ℕ) → List ℕ
on_block (Ok (Some (b, next))) f = f b next.at
on_block (Ok None) f = []
on_block (Err e) f = []

-- the octets of the blocks, rewritten, starting at an offset; n bounds the number of blocks
unfoldable pub rewritten_from : ℕ → List ℕ → ℕ → List ℕ
rewritten_from zero s at = []
rewritten_from (suc n) s at =
    on_block (step_at s at) (λ b next. encode_block (rewrite_block (block_in s b)) ++ rewritten_from n s next)
