-- `step_at` in each of its cases, in the order of its tests. Assumes nothing.
use Prim.Native.Nat.{ℕ, ◌+◌, ◌-◌, ◌<◌, ◌≤◌}
use mathlib.Core.Path.{◌≡◌, refl, ap, subst}
use mathlib.Core.List.{List}
use native.Mathlib.Omega.{arith}
use borrow.Author.Tests.{lt-ltb, le-ltb, le-leb, lt-leb, eq-eqb, ne_eqb}
use lib.ListN.{length}
use Rattle.lists.proofs.Cases.{never, split_le, split_eq}
use Rattle.refusal.specs.declared.Refusal.{Refusal}
use Rattle.octets.specs.Octets.{be16}
use Rattle.packet.specs.Sizes.{most_reports, block_octets}
use Rattle.walk.specs.Walk.{rts_at, filler_at, block_here_of, block_of, step_at}
use Rattle.walk.specs.declared.ReportBlock.{ReportBlock}
use Rattle.packet_header.specs.declared.Cursor.{Cursor}
use Rattle.std.specs.Prelude.{Option, Result, Some, None, Ok, Err}
use Rattle.refusal.specs.declared.Refusal.TheVariants.{RunsIntoRts, TooManyReports, FillerNotZero}

module _ (s : List ℕ) (at : ℕ) where
  pub step_end : rts_at s ≤ at → Ok None ≡ step_at s at
  unfolding step_at
  step_end h = simp (le-leb (rts_at s) at h)

  pub step_no_header : at < rts_at s → rts_at s - at < 8 → Err RunsIntoRts ≡ step_at s at
  unfolding step_at
  step_no_header h r = simp (lt-leb (rts_at s) at h, lt-ltb (rts_at s) (at + 8) (omega arith))

  module _ (n : ℕ) (header : 8 ≤ rts_at s - at) (count : n ≡ be16 s (at + 6)) where
    pub step_of : step_at s at ≡ block_of s at n
    unfolding step_at
    step_of = rw count (simp (lt-leb (rts_at s) at (omega arith), le-ltb (rts_at s) (at + 8) (omega arith)))

    pub step_many : most_reports < n → Err TooManyReports ≡ step_at s at
    step_many h = rw step_of (simp (lt-ltb most_reports n h))

    module _ (few : n ≤ most_reports) where
      pub step_overrun : rts_at s - at < block_octets n → Err RunsIntoRts ≡ step_at s at
      step_overrun r = rw step_of (simp (le-ltb most_reports n few, lt-ltb (rts_at s) (at + block_octets n) (omega arith)))

      module _ (room : block_octets n ≤ rts_at s - at) where
        pub step_filler : (filler_at s at n ≡ 0 → ⊥) → Err FillerNotZero ≡ step_at s at
        step_filler f =
            rw step_of (simp (le-ltb most_reports n few, le-ltb (rts_at s) (at + block_octets n) (omega arith), ne_eqb (filler_at s at n) 0 f))

        pub step_found : filler_at s at n ≡ 0 → Ok (Some (block_here_of s at n, record { at = at + block_octets n })) ≡ step_at s at
        step_found f =
            rw step_of (simp (le-ltb most_reports n few, le-ltb (rts_at s) (at + block_octets n) (omega arith), eq-eqb (filler_at s at n) 0 f))

-- every case
pub ruleset steps = (step_end, step_no_header, step_many, step_overrun, step_filler, step_found)

-- all that holds where a block is found
pub record FoundBlock (s : List ℕ) (at : ℕ) (b : ReportBlock) (next : Cursor) : Type 0 where
  pub is : b ≡ block_here_of s at (be16 s (at + 6))
  pub next_is : next ≡ record { at = at + block_octets (be16 s (at + 6)) }
  pub few : be16 s (at + 6) ≤ most_reports
  pub room : at + block_octets (be16 s (at + 6)) ≤ rts_at s
  pub filler : filler_at s at (be16 s (at + 6)) ≡ 0

-- what stands at an offset, by cases: the end, a refusal before it, or a block
pub step_cases : (P : Result (Option (ReportBlock × Cursor)) Refusal → Type 0) (s : List ℕ) (at : ℕ) → (rts_at s ≤ at → P (Ok None))
    → ((x : Refusal) → at < rts_at s → P (Err x))
    → ((b : ReportBlock) (next : Cursor) → FoundBlock s at b next → P (Ok (Some (b, next))))
    → P (step_at s at)
step_cases P s at end refused block =
    split_le (rts_at s) at (λ h. subst P (step_end s at h) (end h))
    (λ h. split_le 8 (rts_at s - at) (counting h) (λ r. subst P (step_no_header s at h r) (refused RunsIntoRts h)))
  where
    counting : at < rts_at s → 8 ≤ rts_at s - at → P (step_at s at)
    counting h r =
        let n = be16 s (at + 6) in
        split_le n most_reports
        (λ f. split_le (block_octets n) (rts_at s - at)
        (λ m. split_eq (filler_at s at n) 0
        (λ z. subst P (step_found s at n r refl f m z)
        (block (block_here_of s at n) (record { at = at + block_octets n })
        (record { is = refl; next_is = refl; few = f; room = omega arith; filler = z })))
        (λ z. subst P (step_filler s at n r refl f m z) (refused FillerNotZero h)))
        (λ m. subst P (step_overrun s at n r refl f m) (refused RunsIntoRts h)))
        (λ f. subst P (step_many s at n r refl f) (refused TooManyReports h))

pub ended : (s : List ℕ) (at : ℕ) → step_at s at ≡ Ok None → rts_at s ≤ at
ended s at = step_cases (λ k. k ≡ Ok None → rts_at s ≤ at) s at (λ h e. h) (λ x h e. never (cc)) (λ b n f e. never (cc))

module _ (s : List ℕ) (at : ℕ) (b : ReportBlock) (next : Cursor) (e : step_at s at ≡ Ok (Some (b, next))) where
  pub found : FoundBlock s at b next
  found =
      step_cases (λ k. k ≡ Ok (Some (b, next)) → FoundBlock s at b next) s at (λ h e. never (cc)) (λ x h e. never (cc))
      (λ b' next' f e.
      let both : ◌≡◌ {A = ReportBlock × Cursor} (b, next) (b', next') = cc in
      let y : b ≡ b' = ap (λ (p : ReportBlock × Cursor). p.0) both in
      let z : next ≡ next' = ap (λ (p : ReportBlock × Cursor). p.1) both in
      rw (y, z) f) e

  pub next_at : next.at ≡ at + block_octets (be16 s (at + 6))
  next_at = ap (λ (x : Cursor). x.at) found.next_is

  pub next_more : at + 8 ≤ next.at
  next_more = omega (arith, next_at)

  pub next_room : next.at ≤ rts_at s
  next_room = omega (arith, next_at, found.room)

  pub inside : at < length s
  inside = omega (arith, found.room)
