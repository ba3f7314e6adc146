-- Rules: "Reader". What the calls for C that read a packet answer and leave behind their pointers:
-- from the reader's answer, and from what stood there before.
use Rattle.std.specs.Prelude.{ℕ, List, [], ◌∷◌, Result, Ok, Err}
use Rattle.walk.specs.declared.ReportBlock.{ReportBlock}
use Rattle.refusal.specs.declared.Refusal.{Refusal}
use Rattle.reader.specs.declared.Summary.{Summary}
use Rattle.ccfb_calls.specs.Called.{Called, called, refused_with}

-- `ccfb_read`: sender, RTS, number of blocks
abbrev pub read_called : Result Summary Refusal → List ℕ → Called
read_called (Ok r) before = called 0 (r.sender ∷ r.rts ∷ r.blocks ∷ [])
read_called (Err e) before = refused_with e before

-- `ccfb_block`: SSRC, begin_seq, num_reports
abbrev pub block_called : Result ReportBlock Refusal → List ℕ → Called
block_called (Ok b) before = called 0 (b.ssrc ∷ b.begin_seq ∷ b.num_reports ∷ [])
block_called (Err e) before = refused_with e before
