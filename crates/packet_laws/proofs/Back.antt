-- What the walk accepts are the octets of the blocks that it gives. Assumes nothing.
use Prim.Native.Nat.{ℕ, zero, suc, ◌+◌, ◌*◌, ◌/◌, ◌%◌, ◌^◌, ◌<◌, ◌≤◌}
use mathlib.Core.Path.{◌≡◌, refl, sym, ap, ◌∙◌}
use mathlib.Core.List.{List, ◌∷◌, ◌++◌, append_assoc, map}
use native.Mathlib.Omega.{arith}
use native.Mathlib.Numerals.{add-one}
use borrow.Author.Tests.{eq-eqb, ne_eqb}
use lib.ListN.{length, get_or, drop}
use lib.Seq.{drop-cons}
use Rattle.lists.specs.All.{All}
use Rattle.lists.proofs.Cases.{split_eq}
use Rattle.octets.specs.Octets.{be16, be32, octets16, octets32, Octets}
use Rattle.octets.proofs.Small.{less_16, octet_at, less_32}
use Rattle.packet.specs.Packet.{encode_metrics, filler, encode_block, encode_blocks, FitBlock}
use Rattle.packet.specs.Sizes.{block_octets}
use Rattle.packet.proofs.Sizes.{even_octets, odd_octets}
use Rattle.walk.specs.Walk.{rts_at, filler_at, block_here_of, step_at, walked, walk_from}
use Rattle.walk.specs.declared.ReportBlock.{ReportBlock}
use Rattle.packet_header.specs.declared.Cursor.{Cursor}
use Rattle.walk.proofs.Steps.{found, next_room}
use Rattle.walk.proofs.Walks.{walk_ind}
use Rattle.reader.specs.Reading.{metrics_at_of, block_in}
use Rattle.reader.proofs.Answers.{length_metrics_at}
use Rattle.packet_laws.proofs.Here.{parts_of_block}
use Rattle.std.specs.Prelude.{Some, Ok}

module _ (s : List ℕ) (octets : Octets s) where
  pub one_back : (i : ℕ) → i < length s → drop i s ≡ get_or s i 0 ∷ drop (i + 1) s
  one_back i h = rw (add-one, drop-cons s i 0)

  pub back_16 : (i : ℕ) → i + 2 ≤ length s → drop i s ≡ octets16 (be16 s i) ++ drop (i + 2) s
  unfolding be16
  back_16 i h =
      let a : get_or s i 0 ≡ be16 s i / 256 = omega (arith, octet_at s octets i, octet_at s octets (i + 1)) in
      let b : get_or s (i + 1) 0 ≡ be16 s i % 256 = omega (arith, octet_at s octets i, octet_at s octets (i + 1)) in
      let z : i + 1 + 1 ≡ i + 2 = omega arith in
      let c = one_back i (omega arith) in
      let d = one_back (i + 1) (omega arith) in
      cc (ap (λ (n : ℕ). drop n s) z)

  pub back_32 : (i : ℕ) → i + 4 ≤ length s → drop i s ≡ octets32 (be32 s i) ++ drop (i + 4) s
  unfolding be32
  back_32 i h =
      let a : be16 s i ≡ be32 s i / 65536 = omega (arith, less_16 s octets i, less_16 s octets (i + 2)) in
      let b : be16 s (i + 2) ≡ be32 s i % 65536 = omega (arith, less_16 s octets i, less_16 s octets (i + 2)) in
      let z : i + 2 + 2 ≡ i + 4 = omega arith in
      let c : drop i s ≡ octets16 (be32 s i / 65536) ++ drop (i + 2) s = rw a at (back_16 i (omega arith)) in
      let d : drop (i + 2) s ≡ octets16 (be32 s i % 65536) ++ drop (i + 4) s = rw (b, z) at (back_16 (i + 2) (omega arith)) in
      c ∙ ap (λ (t : List ℕ). octets16 (be32 s i / 65536) ++ t) d

  pub back_metrics : (n i : ℕ) → i + 2 * n ≤ length s → drop i s ≡ encode_metrics (metrics_at_of s i n) ++ drop (i + 2 * n) s
  unfolding encode_metrics metrics_at_of
  back_metrics zero i h = let z : i + 2 * 0 ≡ i = omega arith in rw z refl
  back_metrics (suc n) i h =
      let z : i + 2 * suc n ≡ i + 2 + 2 * n = omega arith in
      rw z (back_16 i (omega arith) ∙ ap (λ (t : List ℕ). octets16 (be16 s i) ++ t) (back_metrics n (i + 2) (omega arith)))

  back_filler : (n i : ℕ) → i + block_octets n ≤ length s → filler_at s i n ≡ 0 → drop (i + 8 + 2 * n) s ≡ filler n ++ drop (i + block_octets n) s
  unfolding filler_at filler
  back_filler n i h f =
      split_eq (n % 2) 0
      (λ e. let z : i + block_octets n ≡ i + 8 + 2 * n = omega (arith, even_octets n e) in rw z (simp (eq-eqb (n % 2) 0 e)))
      (λ e. let z : i + block_octets n ≡ i + 8 + 2 * n + 2 = omega (arith, odd_octets n e) in
      let g : be16 s (i + 8 + 2 * n) ≡ 0 = simp (ne_eqb (n % 2) 0 e) at f in
      let b : drop (i + 8 + 2 * n) s ≡ octets16 0 ++ drop (i + 8 + 2 * n + 2) s = rw g at (back_16 (i + 8 + 2 * n) (omega (arith, odd_octets n e))) in
      rw z (simp (ne_eqb (n % 2) 0 e) b))

  fit_metrics_at : (n i : ℕ) → All (λ m. m < 2 ^ 16) (metrics_at_of s i n)
  unfolding metrics_at_of
  fit_metrics_at zero i = tt
  fit_metrics_at (suc n) i = (less_16 s octets i, fit_metrics_at n (i + 2))

  module _ (at : ℕ) (b : ReportBlock) (next : Cursor) (e : step_at s at ≡ Ok (Some (b, next))) where
    back_block : drop at s ≡ encode_block (block_in s b) ++ drop next.at s
    back_block =
        let f = found s at b next e in
        let n = be16 s (at + 6) in
        let z₂ : at + 4 + 2 ≡ at + 6 = omega arith in
        let z₃ : at + 6 + 2 ≡ at + 8 = omega arith in
        let d₁ = back_32 at (omega (arith, f.room)) in
        let d₂ : drop (at + 4) s ≡ octets16 (be16 s (at + 4)) ++ drop (at + 6) s = rw z₂ at (back_16 (at + 4) (omega (arith, f.room))) in
        let d₃ : drop (at + 6) s ≡ octets16 n ++ drop (at + 8) s = rw z₃ at (back_16 (at + 6) (omega (arith, f.room))) in
        let d₄ = back_metrics n (at + 8) (omega (arith, f.room)) in
        let d₅ = back_filler n at (omega (arith, f.room)) f.filler in
        rw (f.is, f.next_is)
        (d₁ ∙ ap (λ (t : List ℕ). octets32 (be32 s at) ++ t)
        (d₂ ∙ ap (λ (t : List ℕ). octets16 (be16 s (at + 4)) ++ t)
        (d₃ ∙ ap (λ (t : List ℕ). octets16 n ++ t)
        (d₄ ∙ ap (λ (t : List ℕ). encode_metrics (metrics_at_of s (at + 8) n) ++ t) d₅)))
        ∙ parts_of_block (block_in s (block_here_of s at n)) n (drop (at + block_octets n) s) (length_metrics_at s n (at + 8)))

    fit_block : FitBlock (block_in s b)
    fit_block =
        let f = found s at b next e in
        let n = be16 s (at + 6) in
        rw f.is (record {
          ssrc = less_32 s octets at;
          begin = less_16 s octets (at + 4);
          few = omega (arith, length_metrics_at s n (at + 8), f.few);
          metrics = fit_metrics_at n (at + 8);
        })

  -- the blocks of a walk, and then RTS
  pub record BlocksBack (at : ℕ) (bs : List ReportBlock) : Type 0 where
    pub are : drop at s ≡ encode_blocks (map (block_in s) bs) ++ drop (rts_at s) s
    pub fit : All FitBlock (map (block_in s) bs)

  more : (at : ℕ) (b : ReportBlock) (next : Cursor) (bs : List ReportBlock) → step_at s at ≡ Ok (Some (b, next))
      → BlocksBack next.at bs → BlocksBack at (b ∷ bs)
  unfolding encode_blocks
  more at b next bs e r = record {
    are = back_block at b next e ∙ ap (λ (t : List ℕ). encode_block (block_in s b) ++ t) r.are
        ∙ sym (append_assoc (encode_block (block_in s b)) (encode_blocks (map (block_in s) bs)) (drop (rts_at s) s));
    fit = (fit_block at b next e, r.fit);
  }

  pub back_blocks : (at : ℕ) (bs : List ReportBlock) → walk_from s at ≡ walked bs → at ≤ rts_at s → BlocksBack at bs
  unfolding encode_blocks
  back_blocks =
      walk_ind s (λ at bs. at ≤ rts_at s → BlocksBack at bs)
      (λ at h l. let y : at ≡ rts_at s = omega arith in record { are = rw y refl; fit = tt })
      (λ at b next bs f r l. more at b next bs f (r (next_room s at b next f)))
