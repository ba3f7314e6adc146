-- Rules: "Reader", rule "Blocks"; "Walk". The walk over a packet, which may be any octets: the
-- header, then block by block to RTS or to the first refusal. The refusals of a block, in the order
-- of their tests:
--   26   its header would reach into RTS
--   27   more than 16,384 reports
--   26   its metrics would reach into RTS
--   28   its filler has a bit set
use Rattle.std.specs.Prelude.{ℕ, zero, suc, ◌+◌, ◌-◌, ◌*◌, ◌%◌, cond, List, [], ◌∷◌, length, eqb, ltb, leb}
use Rattle.refusal.specs.declared.Refusal.{Refusal}
use Rattle.octets.specs.Octets.{be16, be32}
use Rattle.packet_header.specs.Header.{differ, start_of}
use Rattle.packet.specs.Sizes.{most_reports, block_header_octets, rts_octets, block_octets}
use Rattle.walk.specs.declared.ReportBlock.{ReportBlock}
use Rattle.std.specs.Prelude.{Option, Result, Some, None, Ok, Err}
use Rattle.packet_header.specs.declared.Cursor.{Cursor}
use Rattle.refusal.specs.declared.Refusal.TheVariants.{RunsIntoRts, TooManyReports, FillerNotZero}

-- ---- the block at an offset

-- RTS is the last four octets
abbrev pub rts_at : List ℕ → ℕ
rts_at s = length s - rts_octets

-- the filler of a block of n reports at an offset; where n is even there is none
unfoldable pub filler_at : List ℕ → ℕ → ℕ → ℕ
filler_at s at n = cond (eqb (n % 2) 0) 0 (be16 s (at + block_header_octets + 2 * n))

-- the fields of a block of n reports at an offset
abbrev pub block_here_of : List ℕ → ℕ → ℕ → ReportBlock
block_here_of s at n = record {
  ssrc = be32 s at;
  begin_seq = be16 s (at + 4);
  num_reports = n;
  metrics_at = at + block_header_octets;
}

-- a block of n reports at an offset: 27, room for the metrics (26), 28; the next block stands behind it
abbrev pub block_of : List ℕ → ℕ → ℕ → Result (Option (ReportBlock × Cursor)) Refusal
block_of s at n =
    cond (ltb most_reports n) (Err TooManyReports)
    (cond (ltb (rts_at s) (at + block_octets n)) (Err RunsIntoRts)
    (cond (differ (filler_at s at n) 0) (Err FillerNotZero)
    (Ok (Some (block_here_of s at n, record { at = at + block_octets n })))))

-- what stands at an offset: the end where RTS begins, else a block: room for its header (26), then the block
unfoldable pub step_at : List ℕ → ℕ → Result (Option (ReportBlock × Cursor)) Refusal
step_at s at =
    cond (leb (rts_at s) at) (Ok None)
    (cond (ltb (rts_at s) (at + block_header_octets)) (Err RunsIntoRts)
    (block_of s at (be16 s (at + 6))))

-- ---- the walk

-- the blocks of a walk, or the refusal that stopped it
pub data Walked : Type 0 where
  walked : List ReportBlock → Walked
  stopped : Refusal → Walked

abbrev pub in_front : ReportBlock → Walked → Walked
in_front b (walked bs) = walked (b ∷ bs)
in_front b (stopped e) = stopped e

abbrev pub onward : Result (Option (ReportBlock × Cursor)) Refusal → (ℕ → Walked) → Walked
onward (Ok (Some (b, next))) rest = in_front b (rest next.at)
onward (Ok None) rest = walked []
onward (Err e) rest = stopped e

-- block by block, starting at an offset; n bounds the number of blocks
unfoldable pub walk : ℕ → List ℕ → ℕ → Walked
walk zero s at = walked []
walk (suc n) s at = onward (step_at s at) (λ next. walk n s next)

-- each block takes octets, so the octets bound their number
abbrev pub walk_from : List ℕ → ℕ → Walked
walk_from s at = walk (length s) s at

abbrev pub started : Result Cursor Refusal → List ℕ → Walked
started (Ok c) s = walk_from s c.at
started (Err e) s = stopped e

-- the blocks of a packet, or the reader's first refusal
unfoldable pub walk_of : List ℕ → Walked
walk_of s = started (start_of s) s
