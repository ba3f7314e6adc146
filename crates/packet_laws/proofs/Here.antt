-- Reading what was written: where the octets at i are those of a number, of metrics or of a block. Assumes nothing.
use Prim.Native.Nat.{ℕ, suc, ◌+◌, ◌-◌, ◌*◌, ◌/◌, ◌%◌, ◌<◌, ◌≤◌}
use mathlib.Core.Path.{◌≡◌, refl, sym, ap, ◌∙◌}
use mathlib.Core.List.{List, [], ◌∷◌, ◌++◌, append_assoc, map}
use native.Mathlib.Omega.{arith}
use native.Mathlib.Numerals.{add-one}
use native.Mathlib.Nat.{add-zero}
use borrow.Author.Tests.{eq-eqb, ne_eqb}
use lib.ListN.{length, get_or, drop, length-drop, length-append}
use lib.Seq.{drop-cons}
use Rattle.lists.specs.All.{All}
use Rattle.lists.proofs.Cases.{split_eq}
use Rattle.octets.specs.Octets.{be16, be32, octets16, octets32}
use Rattle.packet.specs.Packet.{Block, encode_metrics, filler, encode_block, encode_blocks, FitBlock, report_counts}
use Rattle.packet.specs.Sizes.{block_octets, blocks_octets}
use Rattle.packet.proofs.Sizes.{even_octets, odd_octets}
use Rattle.walk.specs.Walk.{rts_at, filler_at, step_at, walked, walk_from}
use Rattle.walk.proofs.Steps.{step_end, step_found}
use Rattle.walk.proofs.Walks.{walk_block, walk_end}
use Rattle.reader.specs.Reading.{metrics_at_of, block_in}
use Rattle.packet_laws.specs.Asked.{laid_block, laid}
use Rattle.std.specs.Prelude.{Some, None, Ok}

-- a block and what follows it, part by part
pub parts_of_block : (b : Block) (n : ℕ) (t : List ℕ) → length b.metrics ≡ n
    → octets32 b.ssrc ++ (octets16 b.begin ++ (octets16 n ++ (encode_metrics b.metrics ++ (filler n ++ t)))) ≡ encode_block b ++ t
unfolding encode_block
parts_of_block b n t e =
    rw (← e)
    (ap (λ (l : List ℕ). octets32 b.ssrc ++ (octets16 b.begin ++ (octets16 (length b.metrics) ++ l)))
    (sym (append_assoc (encode_metrics b.metrics) (filler (length b.metrics)) t)))

module _ (s : List ℕ) where
  -- t stands at i, to the end
  abbrev Here : ℕ → List ℕ → Type 0
  Here i t = drop i s ≡ t

  pub length_here : (i : ℕ) (t : List ℕ) → Here i t → length s - i ≡ length t
  length_here i t e = sym (length-drop i s) ∙ ap length e

  pub one_here : (i a : ℕ) (t : List ℕ) → Here i (a ∷ t) → (get_or s i 0 ≡ a) × Here (i + 1) t
  one_here i a t e =
      let l : i < length s = omega (arith, length_here i (a ∷ t) e) in
      let d : drop i s ≡ get_or s i 0 ∷ drop (suc i) s = drop-cons s i 0 l in
      (cc, rw add-one (cc))

  pub here_16 : (i n : ℕ) (t : List ℕ) → Here i (octets16 n ++ t) → (be16 s i ≡ n) × Here (i + 2) t
  unfolding be16
  here_16 i n t e =
      let a = one_here i (n / 256) (n % 256 ∷ t) e in
      let b = one_here (i + 1) (n % 256) t a.1 in
      let z : i + 1 + 1 ≡ i + 2 = omega arith in
      (omega (arith, a.0, b.0), rw z at b.1)

  pub here_32 : (i n : ℕ) (t : List ℕ) → Here i (octets32 n ++ t) → (be32 s i ≡ n) × Here (i + 4) t
  unfolding be32
  here_32 i n t e =
      let a = here_16 i (n / 65536) (octets16 (n % 65536) ++ t) e in
      let b = here_16 (i + 2) (n % 65536) t a.1 in
      let z : i + 2 + 2 ≡ i + 4 = omega arith in
      (omega (arith, a.0, b.0), rw z at b.1)

  pub here_metrics : (i : ℕ) (ms t : List ℕ) → Here i (encode_metrics ms ++ t) → (metrics_at_of s i (length ms) ≡ ms) × Here (i + 2 * length ms) t
  unfolding encode_metrics metrics_at_of
  here_metrics i [] t e = let z : i + 2 * 0 ≡ i = omega arith in (refl, rw z e)
  here_metrics i (m ∷ ms) t e =
      let a = here_16 i m (encode_metrics ms ++ t) e in
      let b = here_metrics (i + 2) ms t a.1 in
      let z : i + 2 * suc (length ms) ≡ i + 2 + 2 * length ms = omega arith in
      (cc (a.0, b.0), rw z b.1)

  pub here_filler : (i n : ℕ) (t : List ℕ) → Here (i + 8 + 2 * n) (filler n ++ t) → (filler_at s i n ≡ 0) × Here (i + block_octets n) t
  unfolding filler_at filler
  here_filler i n t e =
      split_eq (n % 2) 0
      (λ h. let z : i + block_octets n ≡ i + 8 + 2 * n = omega (arith, even_octets n h) in
      let e' = simp (eq-eqb (n % 2) 0 h) at e in
      (simp (eq-eqb (n % 2) 0 h), rw z e'))
      (λ h. let z : i + block_octets n ≡ i + 8 + 2 * n + 2 = omega (arith, odd_octets n h) in
      let e' : Here (i + 8 + 2 * n) (octets16 0 ++ t) = simp (ne_eqb (n % 2) 0 h) at e in
      let f = here_16 (i + 8 + 2 * n) 0 t e' in
      (simp (ne_eqb (n % 2) 0 h) f.0, rw z f.1))

  -- the block b stands at an offset, and t behind it
  pub record BlockHere (at : ℕ) (b : Block) (t : List ℕ) : Type 0 where
    pub found : Ok (Some ((laid_block at b), (record { at = at + block_octets (length b.metrics) }))) ≡ step_at s at
    pub is : block_in s (laid_block at b) ≡ b
    pub rest : Here (at + block_octets (length b.metrics)) t

  pub here_block : (at : ℕ) (b : Block) (t : List ℕ) → 4 ≤ length t → FitBlock b → Here at (encode_block b ++ t) → BlockHere at b t
  here_block at b t l fit e =
      let n = length b.metrics in
      let e₀ : Here at (octets32 b.ssrc ++ (octets16 b.begin ++ (octets16 n ++ (encode_metrics b.metrics ++ (filler n ++ t))))) =
      e ∙ sym (parts_of_block b n t refl) in
      let e₁ = here_32 at b.ssrc _ e₀ in
      let e₂ = here_16 (at + 4) b.begin _ e₁.1 in
      let z₂ : at + 4 + 2 ≡ at + 6 = omega arith in
      let e₃ = here_16 (at + 6) n _ (rw z₂ at e₂.1) in
      let z₃ : at + 6 + 2 ≡ at + 8 = omega arith in
      let e₄ = here_metrics (at + 8) b.metrics _ (rw z₃ at e₃.1) in
      let e₅ = here_filler at n t e₄.1 in
      let room : block_octets n ≤ rts_at s - at = omega (arith, length_here (at + block_octets n) t e₅.1) in
      record {
        found = rw (e₁.0, e₂.0) at (step_found s at n (omega arith) (sym e₃.0) fit.few room e₅.0);
        is = rw e₄.0;
        rest = e₅.1;
      }

  -- blocks stand at an offset, and RTS behind them
  pub record BlocksHere (at : ℕ) (bs : List Block) (t : List ℕ) : Type 0 where
    pub walks : walk_from s at ≡ walked (laid at bs)
    pub are : map (block_in s) (laid at bs) ≡ bs
    pub rest : Here (at + blocks_octets (report_counts bs)) t

  pub here_blocks : (at : ℕ) (bs : List Block) (t : List ℕ) → length t ≡ 4 → All FitBlock bs → Here at (encode_blocks bs ++ t) → BlocksHere at bs t
  unfolding encode_blocks laid
  here_blocks at [] t l fit e =
      record { walks = walk_end s at (Ok None) (step_end s at (omega (arith, length_here at t e))) refl; are = refl; rest = rw add-zero e }
  here_blocks at (b ∷ bs) t l fit e =
      let n = length b.metrics in
      let e₀ : Here at (encode_block b ++ (encode_blocks bs ++ t)) = rw append_assoc at e in
      let h = here_block at b (encode_blocks bs ++ t) (omega (arith, length-append (encode_blocks bs) t)) fit.0 e₀ in
      let r = here_blocks (at + block_octets n) bs t l fit.1 h.rest in
      let z : at + (block_octets n + blocks_octets (report_counts bs)) ≡ at + block_octets n + blocks_octets (report_counts bs) = omega arith in
      record { walks = walk_block s at _ h.found _ _ refl ∙ rw r.walks; are = rw (h.is, r.are); rest = rw z r.rest }
