-- What holds of each number of each range holds of each number that a reader is told. Assumes nothing.
use Prim.Native.Nat.{ℕ, zero, suc, ◌+◌, ◌%◌, ◌<◌}
use mathlib.Core.Path.{◌≡◌, refl, subst, ◌∙◌}
use mathlib.Core.Bool.{Bool, true, false, cond}
use mathlib.Core.List.{List, [], ◌∷◌, map}
use native.Mathlib.Omega.{arith}
use lib.ListN.{length, get_or}
use lib.Dec.{eqb}
use borrow.Author.Tests.{eqb-true}
use Rattle.lists.specs.All.{All}
use Rattle.lists.proofs.Cases.{never, split_le}
use Rattle.lists.proofs.All.{all_left, all_right}
use Rattle.walk.specs.Walk.{Walked, walked, stopped, walk_of}
use Rattle.walk.specs.declared.ReportBlock.{ReportBlock}
use Rattle.block_reader.specs.Blocks.{nth, located}
use Rattle.cutting.specs.Cutting.{CutBlock, Cutting, following, numbers_from, all_blocks, stream_of, Cuts}
use Rattle.cutting.specs.declared.Request.{Request}
use Rattle.cutting.proofs.Requests.{length_numbers}
use Rattle.writer_laws.specs.Read.{request_of, block_read, blocks_read, cutting_read}
use Rattle.feedback.specs.Seen.{OfNumbers}
use Rattle.feedback.proofs.Ranges.{Each, OfRequests, each_of_cutting}
use Rattle.std.specs.Prelude.{Ok}

-- number j of a range
number_at : (begin count j : ℕ) → begin < 65536 → j < count → get_or (numbers_from begin count) j 0 ≡ (begin + j) % 65536
number_at begin zero j b l = absurd (omega arith)
number_at begin (suc k) zero b l = omega arith
number_at begin (suc k) (suc j) b l =
    number_at (following begin) k j (omega arith) (omega arith)
    ∙ split_le 65535 begin
    (λ h. let f : following begin ≡ 0 = omega arith in rw f (omega arith))
    (λ h. let f : following begin ≡ begin + 1 = omega arith in rw f (omega arith))

first_number : (begin count : ℕ) → 0 < count → get_or (numbers_from begin count) 0 0 ≡ begin
first_number begin zero l = absurd (omega arith)
first_number begin (suc k) l = refl

-- a property of every element, at one of them
all_at : (P : ℕ → Type 0) (xs : List ℕ) (j : ℕ) → j < length xs → All P xs → P (get_or xs j 0)
all_at P [] j l h = absurd (omega arith)
all_at P (x ∷ xs) zero l h = h.0
all_at P (x ∷ xs) (suc j) l h = all_at P xs j (omega arith) h.1

-- the request of an SSRC that some request has
request_named : (rs : List Request) (ssrc : ℕ) → request_of rs ssrc < length rs → stream_of rs (request_of rs ssrc) ≡ ssrc
unfolding request_of
request_named [] ssrc l = absurd (omega arith)
request_named (r ∷ rs) ssrc l = by_test (eqb r.ssrc ssrc) refl (λ k. request_named rs ssrc k) l
  where
    by_test : (t : Bool) → eqb r.ssrc ssrc ≡ t → (request_of rs ssrc < length rs → stream_of rs (request_of rs ssrc) ≡ ssrc)
        → cond t 0 (suc (request_of rs ssrc)) < suc (length rs)
        → stream_of (r ∷ rs) (cond t 0 (suc (request_of rs ssrc))) ≡ ssrc
    by_test true e rec l = eqb-true r.ssrc ssrc e
    by_test false e rec l = rec (omega arith)

-- of all blocks, so of those of each packet
all_packets : (Q : CutBlock → Type 0) (c : Cutting) → All Q (all_blocks c) → All (All Q) c
all_packets Q [] h = tt
all_packets Q (p ∷ c) h = (all_left Q p (all_blocks c) h, all_packets Q c (all_right Q p (all_blocks c) h))

both : {A : Type 0} (P Q : A → Type 0) (xs : List A) → All P xs → All Q xs → All (λ (x : A). P x × Q x) xs
both P Q [] h g = tt
both P Q (x ∷ xs) h g = ((h.0, g.0), both P Q xs h.1 g.1)

-- a block that the reader finds is a block of its packet
found_block : (Q : CutBlock → Type 0) (rs : List Request) (w : Walked) (k : ℕ) (b : ReportBlock)
    → All Q (blocks_read rs w) → located w k ≡ Ok b → Q (block_read rs b)
found_block Q rs (stopped e) k b h f = never (cc)
found_block Q rs (walked bs) k b h f = in_list bs k h f
  where
    in_list : (bs : List ReportBlock) (k : ℕ) → All Q (map (block_read rs) bs) → nth bs k ≡ Ok b → Q (block_read rs b)
    in_list [] k h f = never (cc)
    in_list (x ∷ bs) zero h f = let e : x ≡ b = cc in subst (λ (y : ReportBlock). Q (block_read rs y)) e h.0
    in_list (x ∷ bs) (suc k) h f = in_list bs k h.1 f

module _ (P : ℕ → ℕ → Type 0) (bound : (ssrc s : ℕ) → P ssrc s → s < 65536) (limit : ℕ) (rs : List Request) (g : OfRequests P rs) where
  abbrev InRequest : CutBlock → Type 0
  InRequest b = (b.request < length rs) × Each (P (stream_of rs b.request)) b

  at_number : (ssrc begin count j : ℕ) → All (P ssrc) (numbers_from begin count) → j < count → P ssrc ((begin + j) % 65536)
  at_number ssrc begin count j h l =
      let first = all_at (P ssrc) (numbers_from begin count) 0 (rw length_numbers (omega arith)) h in
      let small : begin < 65536 = bound ssrc begin (subst (P ssrc) (first_number begin count (omega arith)) first) in
      subst (P ssrc) (number_at begin count j small l) (all_at (P ssrc) (numbers_from begin count) j (rw length_numbers l) h)

  in_packet : (s : List ℕ) → All InRequest (blocks_read rs (walk_of s)) → OfNumbers P s
  in_packet s h k j b f l =
      let q : InRequest (block_read rs b) = found_block InRequest rs (walk_of s) k b h f in
      at_number b.ssrc b.begin_seq b.num_reports j
      (subst (λ (x : ℕ). All (P x) (numbers_from b.begin_seq b.num_reports)) (request_named rs b.ssrc q.0) q.1) l

  over : (ps : List (List ℕ)) → All (All InRequest) (cutting_read rs ps) → All (OfNumbers P) ps
  over [] h = tt
  over (s ∷ ps) h = (in_packet s h.0, over ps h.1)

  pub each_told : (ps : List (List ℕ)) → Cuts limit rs (cutting_read rs ps) → All (OfNumbers P) ps
  each_told ps cuts =
      over ps
      (all_packets InRequest (cutting_read rs ps)
      (both (λ (b : CutBlock). b.request < length rs) (λ (b : CutBlock). Each (P (stream_of rs b.request)) b) (all_blocks (cutting_read rs ps)) cuts.known
      (each_of_cutting P limit rs (cutting_read rs ps) cuts g)))
