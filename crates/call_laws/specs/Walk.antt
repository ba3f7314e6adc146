-- Rules: "Walk". A caller's walk over the blocks of a packet s, which may be any octets:
-- `ccfb_first_block`, then `ccfb_next_block` as long as it answers 0, each call at the offset that
-- the call before left. It is defined by what the two calls answer, as their contracts say it. The
-- theorems are the rule "Same as the reader".
use Rattle.std.specs.Prelude.{ℕ, suc, ◌<◌, ◌≡◌, List, [], ◌∷◌, Ok}
use Rattle.refusal.specs.declared.Refusal.{Refusal}
use Rattle.packet_header.specs.Header.{start_of}
use Rattle.walk.specs.Walk.{step_at}
use Rattle.walk.specs.declared.ReportBlock.{ReportBlock}
use Rattle.block_reader.specs.Blocks.{read_block}
use Rattle.ccfb_calls.specs.Called.{Called, called, refused_with}
use Rattle.ccfb_walk.specs.Walk.{first_called, next_called}
use Rattle.refusal.specs.declared.Refusal.TheVariants.{NoBlock}

-- What stands behind the pointers before each call: the offset before `ccfb_first_block`, and the other four numbers
-- before call k, from 0, of `ccfb_next_block`. It may be anything.
pub record Memory : Type 0 where
  pub offset : ℕ
  pub others : ℕ → List ℕ

-- ---- the calls, by their contracts

abbrev pub first_call : List ℕ → Memory → Called
first_call s m = first_called (start_of s) (m.offset ∷ [])

-- call k of `ccfb_next_block`, made at an offset
abbrev pub next_call : List ℕ → Memory → ℕ → ℕ → Called
next_call s m k at = next_called (step_at s at) (at ∷ m.others k)

-- 0, the offset behind a block, its SSRC, begin_seq and num_reports, and the offset of its metrics
abbrev pub block_given : ReportBlock → ℕ → Called
block_given b behind = called 0 (behind ∷ b.ssrc ∷ b.begin_seq ∷ b.num_reports ∷ b.metrics_at ∷ [])

-- ---- the walk

-- `ccfb_first_block` and k calls of `ccfb_next_block` have answered 0, and left an offset
pub data Reaches (s : List ℕ) (m : Memory) : ℕ → ℕ → Type 0 where
  first : {at : ℕ} → first_call s m ≡ called 0 (at ∷ []) → Reaches s m 0 at
  next : {k at behind : ℕ} (b : ReportBlock) → Reaches s m k at → next_call s m k at ≡ block_given b behind
      → Reaches s m (suc k) behind

-- the walk gives b as its block k, from 0
pub record WalkGives (s : List ℕ) (m : Memory) (k : ℕ) (b : ReportBlock) : Type 0 where
  pub at : ℕ
  pub behind : ℕ
  pub reached : Reaches s m k at
  pub given : next_call s m k at ≡ block_given b behind

-- the walk ends after k blocks: the next call answers 29, no such block, and leaves the numbers as they were
pub record Ends (s : List ℕ) (m : Memory) (k : ℕ) : Type 0 where
  pub at : ℕ
  pub reached : Reaches s m k at
  pub ended : next_call s m k at ≡ refused_with NoBlock (at ∷ m.others k)

-- a call of the walk refuses with e, which is not the 29 of the end, and leaves the numbers as they were
pub data Refuses (s : List ℕ) (m : Memory) (e : Refusal) : Type 0 where
  header : first_call s m ≡ refused_with e (m.offset ∷ []) → Refuses s m e
  block : {k at : ℕ} → Reaches s m k at → next_call s m k at ≡ refused_with e (at ∷ m.others k) → (e ≡ NoBlock → ⊥)
      → Refuses s m e

-- ---- the walk of a packet of n blocks: just the reader's blocks 0 to n - 1, and then the end
pub record Yields (s : List ℕ) (m : Memory) (n : ℕ) : Type 0 where
  pub each : (k : ℕ) → k < n → (b : ReportBlock) × ((read_block s k ≡ Ok b) × WalkGives s m k b)
  pub only : (k : ℕ) (b : ReportBlock) → WalkGives s m k b → (k < n) × (read_block s k ≡ Ok b)
  pub end : Ends s m n
  pub once : (k : ℕ) → Ends s m k → k ≡ n
