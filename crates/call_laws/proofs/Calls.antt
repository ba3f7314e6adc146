-- What was found where a call of the walk gave its answer. Assumes nothing.
use Prim.Native.Nat.{ℕ, ◌+◌}
use mathlib.Core.Path.{◌≡◌, refl, sym, ap}
use mathlib.Core.Bool.{Bool, true, false, cond, not}
use mathlib.Core.List.{List, [], ◌∷◌}
use lib.Dec.{eqb, ltb, leb}
use Rattle.lists.proofs.Cases.{never}
use Rattle.refusal.specs.declared.Refusal.{Refusal}
use Rattle.octets.specs.Octets.{be16}
use Rattle.packet.specs.Sizes.{most_reports, block_header_octets, block_octets}
use Rattle.packet_header.specs.declared.Cursor.{Cursor}
use Rattle.std.specs.Prelude.{Option, Result, Some, None, Ok, Err}
use Rattle.walk.specs.Walk.{rts_at, filler_at, block_here_of, step_at}
use Rattle.walk.specs.declared.ReportBlock.{ReportBlock}
use Rattle.ccfb_calls.specs.Called.{Called, called, refused_with}
use Rattle.ccfb_walk.specs.Walk.{first_called, next_called}
use Rattle.call_laws.specs.Walk.{block_given}
use Rattle.call_laws.proofs.Numbers.{own_number, not_zero}
use Rattle.refusal.specs.declared.Refusal.TheVariants.{RunsIntoRts, TooManyReports, FillerNotZero, NoBlock}

pub answers : {x y : Called} → x ≡ y → x.answer ≡ y.answer
answers h = ap (λ (c : Called). c.answer) h

pub numbers : {x y : Called} → x ≡ y → x.behind ≡ y.behind
numbers h = ap (λ (c : Called). c.behind) h

module _ (before : List ℕ) where
  pub start_given : (d : Result Cursor Refusal) (at : ℕ) → first_called d before ≡ called 0 (at ∷ []) → (c : Cursor) × ((d ≡ Ok c) × (c.at ≡ at))
  start_given (Ok c) at h = let z = numbers h in (c, (refl, cc))
  start_given (Err e) at h = not_zero e (answers h)

  pub start_refused : (d : Result Cursor Refusal) (e : Refusal) → first_called d before ≡ refused_with e before → d ≡ Err e
  start_refused (Ok c) e h = not_zero e (sym (answers h))
  start_refused (Err x) e h = ap Err (own_number x e (answers h))

  pub step_given : (d : (Result (Option (ReportBlock × Cursor)) Refusal)) (b : ReportBlock) (behind : ℕ) → next_called d before ≡ block_given b behind
      → (c : Cursor) × ((d ≡ Ok (Some (b, c))) × (c.at ≡ behind))
  step_given (Ok (Some (x, c))) b behind h =
      let z = numbers h in
      let ssrc : x.ssrc ≡ b.ssrc = cc in
      let begin : x.begin_seq ≡ b.begin_seq = cc in
      let count : x.num_reports ≡ b.num_reports = cc in
      let metrics : x.metrics_at ≡ b.metrics_at = cc in
      let same : x ≡ b = λ i. record { ssrc = ssrc i; begin_seq = begin i; num_reports = count i; metrics_at = metrics i } in
      (c, (ap (λ (y : ReportBlock). Ok (Some (y, c))) same, cc))
  step_given (Ok None) b behind h = never (let z = answers h in cc)
  step_given (Err e) b behind h = not_zero e (answers h)

  pub step_refused : (d : (Result (Option (ReportBlock × Cursor)) Refusal)) (e : Refusal) → (e ≡ NoBlock → ⊥) → next_called d before ≡ refused_with e before → d ≡ Err e
  step_refused (Ok (Some (x, c))) e n h = not_zero e (sym (answers h))
  step_refused (Ok None) e n h = absurd (n (sym (own_number NoBlock e (answers h))))
  step_refused (Err x) e n h = ap Err (own_number x e (answers h))

-- ---- no block is refused with 29, so that 29 is the end

by_tests : (a b c d f : Bool) (p : ReportBlock × Cursor) (e : Refusal)
    → cond a (Ok None)
    (cond b (Err RunsIntoRts)
    (cond c (Err TooManyReports)
    (cond d (Err RunsIntoRts)
    (cond (not f) (Err FillerNotZero) (Ok (Some p)))))) ≡ Err e
    → e ≡ NoBlock → ⊥
by_tests true b c d f p e h z = never (cc)
by_tests false true c d f p e h z = never (cc)
by_tests false false true d f p e h z = never (cc)
by_tests false false false true f p e h z = never (cc)
by_tests false false false false true p e h z = never (cc)
by_tests false false false false false p e h z = never (cc)

module _ (s : List ℕ) (at : ℕ) where
  pub not_29 : (e : Refusal) → step_at s at ≡ Err e → e ≡ NoBlock → ⊥
  unfolding step_at
  not_29 e h z =
      let n = be16 s (at + 6) in
      let found : ReportBlock × Cursor = (block_here_of s at n, record { at = at + block_octets n }) in
      by_tests (leb (rts_at s) at) (ltb (rts_at s) (at + block_header_octets)) (ltb most_reports n) (ltb (rts_at s) (at + block_octets n))
      (eqb (filler_at s at n) 0) found e h z

  pub step_ended : (before : List ℕ) → next_called (step_at s at) before ≡ refused_with NoBlock before → step_at s at ≡ Ok None
  step_ended before h = by_step (step_at s at) refl h
    where
      by_step : (d : (Result (Option (ReportBlock × Cursor)) Refusal)) → step_at s at ≡ d → next_called d before ≡ refused_with NoBlock before → d ≡ Ok None
      by_step (Ok (Some (x, c))) f h = never (let z = answers h in cc)
      by_step (Ok None) f h = refl
      by_step (Err e) f h = absurd (not_29 e f (own_number e NoBlock (answers h)))
