-- What holds of each number of each range holds of each number of each block of a cutting. Assumes nothing.
use Prim.Native.Nat.{ℕ, zero, suc, ◌+◌, ◌<◌}
use mathlib.Core.Path.{refl, subst}
use mathlib.Core.Bool.{Bool, true, false, cond}
use mathlib.Core.List.{List, [], ◌∷◌}
use native.Mathlib.Omega.{arith}
use native.Mathlib.Nat.{add-zero, zero-add, add-suc, suc-add}
use lib.ListN.{length}
use lib.Dec.{eqb}
use borrow.Author.Tests.{eq-eqb}
use Rattle.lists.specs.All.{All}
use Rattle.lists.proofs.All.{all_left, all_right}
use Rattle.cutting.specs.Cutting.{CutBlock, Cutting, numbers_from, numbers_reported, all_blocks, blocks_of, whole_blocks, stream_of, RangeRules, Cuts}
use Rattle.cutting.specs.declared.Request.{Request}

-- the numbers of a block each have the property
abbrev pub Each : (ℕ → Type 0) → CutBlock → Type 0
Each P b = All P (numbers_from b.begin b.count)

-- what holds of all that blocks report holds of each block's numbers
each_block : (P : ℕ → Type 0) (bs : List CutBlock) → All P (numbers_reported bs) → All (Each P) bs
each_block P [] h = tt
each_block P (b ∷ bs) h = (
  all_left P (numbers_from b.begin b.count) (numbers_reported bs) h,
  each_block P bs (all_right P (numbers_from b.begin b.count) (numbers_reported bs) h),
)

-- a block of the request i is among the blocks of the request i
module _ (P : ℕ → CutBlock → Type 0) (n : ℕ) where
  by_request : (bs : List CutBlock) → All (λ (b : CutBlock). b.request < n) bs
      → ((i : ℕ) → i < n → All (P i) (blocks_of i bs)) → All (λ (b : CutBlock). P b.request b) bs
  by_request [] k h = tt
  by_request (b ∷ bs) k h = (
    (subst (λ (t : Bool). All (P b.request) (cond t (b ∷ blocks_of b.request bs) (blocks_of b.request bs)))
        (eq-eqb b.request b.request refl) (h b.request k.0)).0,
    by_request bs k.1 (λ i l. rest i (eqb b.request i) (h i l)),
  )
    where
      rest : (i : ℕ) (t : Bool) → All (P i) (cond t (b ∷ blocks_of i bs) (blocks_of i bs)) → All (P i) (blocks_of i bs)
      rest i true q = q.1
      rest i false q = q

-- `P ssrc number`, of each number of each request's range
abbrev pub OfRequests : (ℕ → ℕ → Type 0) → List Request → Type 0
OfRequests P rs = All (λ (r : Request). All (P r.ssrc) (numbers_from r.begin r.count)) rs

module _ (P : ℕ → ℕ → Type 0) where
  at_request : (n : ℕ) (rs : List Request) (bs : List CutBlock)
      → All (λ (a : CutBlock). RangeRules a (blocks_of a.request bs)) (whole_blocks n rs) → OfRequests P rs
      → (i : ℕ) → i < length rs → All (P (stream_of rs i)) (numbers_reported (blocks_of (n + i) bs))
  at_request n [] bs h g i l = absurd (omega arith)
  at_request n (r ∷ rs) bs h g zero l = rw (add-zero, h.0.range) g.0
  at_request n (r ∷ rs) bs h g (suc i) l = rw (add-suc, ← suc-add) (at_request (suc n) rs bs h.1 g.1 i (omega arith))

  -- it holds of each number of each block of a cutting, by the stream of the block's request
  pub each_of_cutting : (limit : ℕ) (rs : List Request) (c : Cutting) → Cuts limit rs c → OfRequests P rs
      → All (λ (b : CutBlock). Each (P (stream_of rs b.request)) b) (all_blocks c)
  each_of_cutting limit rs c cuts g =
      by_request (λ (i : ℕ). Each (P (stream_of rs i))) (length rs) (all_blocks c) cuts.known
      (λ i l. each_block (P (stream_of rs i)) (blocks_of i (all_blocks c)) (rw zero-add at (at_request 0 rs (all_blocks c) cuts.ranges g i l)))
