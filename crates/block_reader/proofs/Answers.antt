-- The reader's answers about block k, from what the code's steps have found. Assumes nothing.
use Prim.Native.Nat.{ℕ, zero, suc}
use mathlib.Core.Path.{◌≡◌, refl, ◌∙◌}
use mathlib.Core.List.{List}
use Rattle.refusal.specs.declared.Refusal.{Refusal}
use Rattle.walk.specs.Walk.{step_at, Walked, walked, stopped, in_front, onward, walk_from}
use Rattle.walk.specs.declared.ReportBlock.{ReportBlock}
use Rattle.packet_header.specs.declared.Cursor.{Cursor}
use Rattle.std.specs.Prelude.{Option, Result, Some, None, Ok, Err}
use Rattle.walk.proofs.Walks.{walk_step}
use Rattle.reader.specs.Steps.{counted}
use Rattle.block_reader.specs.Blocks.{located}
use Rattle.block_reader.specs.Steps.{past_block, after_blocks}
use Rattle.refusal.specs.declared.Refusal.TheVariants.{NoBlock}

-- a turn of the loop that passes blocks
pub after_turn : (s : List ℕ) (at left rest : ℕ) → left ≡ suc rest
    → after_blocks left s at ≡ past_block (step_at s at) (λ next. after_blocks rest s next)
unfolding after_blocks
after_turn s at left rest e = rw e

-- a block is found if the blocks behind it are sound
abbrev pub found_if : Result ℕ Refusal → ReportBlock → Result ReportBlock Refusal
found_if (Ok n) b = Ok b
found_if (Err e) b = Err e

module _ (s : List ℕ) where
  abbrev pub answer_at : Result (Option (ReportBlock × Cursor)) Refusal → Result ReportBlock Refusal
  answer_at (Ok (Some (b, next))) = found_if (counted 0 (walk_from s next.at)) b
  answer_at (Ok None) = Err NoBlock
  answer_at (Err e) = Err e

  located_first : (b : ReportBlock) (w : Walked) → located (in_front b w) 0 ≡ found_if (counted 0 w) b
  located_first b (walked bs) = refl
  located_first b (stopped e) = refl

  located_next : (b : ReportBlock) (w : Walked) (k : ℕ) → located (in_front b w) (suc k) ≡ located w k
  located_next b (walked bs) k = refl
  located_next b (stopped e) k = refl

  -- the block at a cursor
  pub located_here : (at : ℕ) → located (walk_from s at) 0 ≡ answer_at (step_at s at)
  located_here at = rw (walk_step s at) (by_step (step_at s at))
    where
      by_step : (x : Result (Option (ReportBlock × Cursor)) Refusal) → located (onward x (walk_from s)) 0 ≡ answer_at x
      by_step (Ok (Some (b, next))) = located_first b (walk_from s next.at)
      by_step (Ok None) = refl
      by_step (Err e) = refl

  -- block k is the block at the cursor behind k blocks
  abbrev pub answer_from : Result Cursor Refusal → Result ReportBlock Refusal
  answer_from (Ok c) = located (walk_from s c.at) 0
  answer_from (Err e) = Err e

  pub located_after : (k at : ℕ) → located (walk_from s at) k ≡ answer_from (after_blocks k s at)
  unfolding after_blocks
  located_after zero at = refl
  located_after (suc k) at = rw (walk_step s at) (by_step (step_at s at) (λ at. located_after k at))
    where
      by_step : (x : Result (Option (ReportBlock × Cursor)) Refusal) → ((at : ℕ) → located (walk_from s at) k ≡ answer_from (after_blocks k s at))
          → located (onward x (walk_from s)) (suc k) ≡ answer_from (past_block x (λ next. after_blocks k s next))
      by_step (Ok (Some (b, next))) rest = located_next b (walk_from s next.at) k ∙ rest next.at
      by_step (Ok None) rest = refl
      by_step (Err e) rest = refl
