-- The walk, a step at a time. Assumes nothing.
use Prim.Native.Nat.{ℕ, zero, suc, ◌+◌, ◌≤◌}
use mathlib.Core.Path.{◌≡◌, refl, ap, subst, ◌∙◌}
use mathlib.Core.List.{List, [], ◌∷◌}
use native.Mathlib.Omega.{arith}
use lib.ListN.{length}
use Rattle.lists.proofs.Cases.{never}
use Rattle.refusal.specs.declared.Refusal.{Refusal}
use Rattle.walk.specs.Walk.{rts_at, step_at, Walked, walked, stopped, in_front, onward, walk, walk_from}
use Rattle.walk.specs.declared.ReportBlock.{ReportBlock}
use Rattle.packet_header.specs.declared.Cursor.{Cursor}
use Rattle.std.specs.Prelude.{Option, Result, Some, None, Ok, Err}
use Rattle.walk.proofs.Steps.{step_end, next_more, ended}

module _ (s : List ℕ) where
  -- any bound that is enough gives the same walk
  pub walk_enough : (n m at : ℕ) → length s ≤ n + at → length s ≤ m + at → walk n s at ≡ walk m s at
  unfolding walk
  walk_enough zero zero at g h = refl
  walk_enough zero (suc m) at g h = rw (← step_end s at (omega arith))
  walk_enough (suc n) zero at g h = rw (← step_end s at (omega arith))
  walk_enough (suc n) (suc m) at g h =
      by_step (step_at s at)
      (λ b next f. walk_enough n m next.at (omega (arith, next_more s at b next f)) (omega (arith, next_more s at b next f))) refl
    where
      by_step : (k : Result (Option (ReportBlock × Cursor)) Refusal) → ((b : ReportBlock) (next : Cursor) → step_at s at ≡ Ok (Some (b, next)) → walk n s next.at ≡ walk m s next.at)
          → step_at s at ≡ k → onward k (λ i. walk n s i) ≡ onward k (λ i. walk m s i)
      by_step (Ok (Some (b, next))) rest f = ap (in_front b) (rest b next f)
      by_step (Ok None) rest f = refl
      by_step (Err x) rest f = refl

  -- the walk that starts at an offset is what stands there, and the walk behind it
  pub walk_step : (at : ℕ) → walk_from s at ≡ onward (step_at s at) (walk_from s)
  unfolding walk
  walk_step at = walk_enough (length s) (suc (length s)) at (omega arith) (omega arith)

  module _ (at : ℕ) (k : Result (Option (ReportBlock × Cursor)) Refusal) (is : k ≡ step_at s at) where
    pub walk_block : (b : ReportBlock) (next : Cursor) → k ≡ Ok (Some (b, next)) → walk_from s at ≡ in_front b (walk_from s next.at)
    walk_block b next e = walk_step at ∙ rw (← is, e)

    pub walk_end : k ≡ Ok None → walk_from s at ≡ walked []
    walk_end e = walk_step at ∙ rw (← is, e)

    pub walk_refused : (x : Refusal) → k ≡ Err x → walk_from s at ≡ stopped x
    walk_refused x e = walk_step at ∙ rw (← is, e)

-- To show P of the blocks of a walk that is not stopped, show it at the end, and with a block in front.
module _ (s : List ℕ) (P : ℕ → List ReportBlock → Type 0) (end : (at : ℕ) → rts_at s ≤ at → P at [])
    (more : (at : ℕ) (b : ReportBlock) (next : Cursor) (bs : List ReportBlock) → step_at s at ≡ Ok (Some (b, next)) → P next.at bs → P at (b ∷ bs)) where
  walk_ind_by : (n at : ℕ) (bs : List ReportBlock) → length s ≤ n + at → walk n s at ≡ walked bs → P at bs
  unfolding walk
  walk_ind_by zero at bs l e = let z : [] ≡ bs = cc in subst (P at) z (end at (omega arith))
  walk_ind_by (suc n) at bs l e =
      by_step (step_at s at) refl e (λ b next r f h. walk_ind_by n next.at r (omega (arith, next_more s at b next f)) h)
    where
      by_walk : (b : ReportBlock) (next : Cursor) (w : Walked) → step_at s at ≡ Ok (Some (b, next)) → walk n s next.at ≡ w → in_front b w ≡ walked bs
          → ((b : ReportBlock) (next : Cursor) (r : List ReportBlock) → step_at s at ≡ Ok (Some (b, next)) → walk n s next.at ≡ walked r → P next.at r)
          → P at bs
      by_walk b next (walked r) f h i rest = let z : b ∷ r ≡ bs = cc in subst (P at) z (more at b next r f (rest b next r f h))
      by_walk b next (stopped x) f h i rest = never (cc)

      by_step : (c : Result (Option (ReportBlock × Cursor)) Refusal) → step_at s at ≡ c → onward c (λ i. walk n s i) ≡ walked bs
          → ((b : ReportBlock) (next : Cursor) (r : List ReportBlock) → step_at s at ≡ Ok (Some (b, next)) → walk n s next.at ≡ walked r → P next.at r)
          → P at bs
      by_step (Ok (Some (b, next))) f h rest = by_walk b next (walk n s next.at) f refl h rest
      by_step (Ok None) f h rest = let z : [] ≡ bs = cc in subst (P at) z (end at (ended s at f))
      by_step (Err x) f h rest = never (cc)

  pub walk_ind : (at : ℕ) (bs : List ReportBlock) → walk_from s at ≡ walked bs → P at bs
  walk_ind at bs e = walk_ind_by (length s) at bs (omega arith) e
