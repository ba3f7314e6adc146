-- A turn of the loop over the blocks of a walk that is not stopped. Assumes nothing.
use Prim.Native.Nat.{ℕ}
use mathlib.Core.Path.{◌≡◌, sym, ap, ◌∙◌}
use mathlib.Core.List.{List, map}
use Rattle.refusal.specs.declared.Refusal.{Refusal}
use Rattle.packet_header.specs.declared.Cursor.{Cursor}
use Rattle.walk.specs.Walk.{Walked, walked, stopped, in_front, walk_from, step_at}
use Rattle.walk.specs.declared.ReportBlock.{ReportBlock}
use Rattle.std.specs.Prelude.{Option, Result, Some, None, Ok, Err}
use Rattle.walk.proofs.Walks.{walk_block, walk_end, walk_refused}
use Rattle.reader.specs.Reading.{block_in, metrics_at_of}
use Rattle.sent_block.specs.Reports.{reports_from, reports_of, all_reported}
use Rattle.sent_block.specs.Steps.{block_taken}
use Rattle.sent_block.proofs.Reports.{reported_append}
use Rattle.sent_block.proofs.Steps.{block_reported}
use Rattle.sent_feedback.specs.Steps.{NotStopped, blocks_taken}

not_stopped_behind : (b : ReportBlock) (w : Walked) → NotStopped (in_front b w) → NotStopped w
not_stopped_behind b (walked bs) h = tt
not_stopped_behind b (stopped e) h = h

module _ (places : List ℕ) (rts : ℕ) (s cells : List ℕ) where
  -- the first block, and then those behind it
  taken_in_front : (b : ReportBlock) (w : Walked) → NotStopped (in_front b w)
      → blocks_taken places rts s (block_taken places rts cells (block_in s b)) w ≡ blocks_taken places rts s cells (in_front b w)
  unfolding reports_of
  taken_in_front b (walked bs) h =
      let own = reports_from b.ssrc b.begin_seq 0 (metrics_at_of s b.metrics_at b.num_reports) in
      let behind = reports_of (map (block_in s) bs) in
      sym (reported_append places rts own behind cells
      ∙ ap (λ (c : List ℕ). all_reported places rts c behind) (block_reported places rts cells (block_in s b)))
  taken_in_front b (stopped e) h = absurd h

  module _ (at : ℕ) (k : (Result (Option (ReportBlock × Cursor)) Refusal)) (is : k ≡ step_at s at) (sound : NotStopped (walk_from s at)) where
    pub block_sound : (b : ReportBlock) (next : Cursor) → k ≡ Ok (Some (b, next)) → NotStopped (walk_from s next.at)
    block_sound b next e = not_stopped_behind b (walk_from s next.at) (rw (walk_block s at k is b next e) at sound)

    pub block_turn : (b : ReportBlock) (next : Cursor) (after : List ℕ) → k ≡ Ok (Some (b, next)) → after ≡ block_taken places rts cells (block_in s b)
        → blocks_taken places rts s after (walk_from s next.at) ≡ blocks_taken places rts s cells (walk_from s at)
    block_turn b next after e f =
        let w = walk_block s at k is b next e in
        rw (f, w) (taken_in_front b (walk_from s next.at) (rw w at sound))

    pub blocks_end : k ≡ Ok None → cells ≡ blocks_taken places rts s cells (walk_from s at)
    unfolding reports_of all_reported
    blocks_end e = rw (walk_end s at k is e)

    pub blocks_never : {P : Type 0} (x : Refusal) → k ≡ Err x → P
    blocks_never x e = absurd (rw (walk_refused s at k is x e) at sound)
