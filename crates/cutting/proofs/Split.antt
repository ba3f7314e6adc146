-- What the packet rules say of the blocks of all packets, as a derivation: blocks report, one by one, what
-- there is to report. Assumes nothing.
use Rattle.std.proofs.Common.{◌≡◌, ◌<◌, List, [], ◌∷◌, refl, ap}
use Rattle.cutting.specs.Cutting.{CutBlock}
use Rattle.cutting.specs.Plan.{later_numbers, first_numbers}

-- `Split w bs`: the blocks bs report the ranges w, in order
pub data Split : List CutBlock → List CutBlock → Type 0 where
  done : Split [] []
  -- the whole of what is left of a request
  whole : {a b : CutBlock} {w bs : List CutBlock} → b ≡ a → Split w bs → Split (a ∷ w) (b ∷ bs)
  -- some of it, and some is left
  part : {a b : CutBlock} {w bs : List CutBlock} → b ≡ first_numbers a b.count → 0 < b.count → b.count < a.count
      → Split (later_numbers a b.count ∷ w) bs → Split (a ∷ w) (b ∷ bs)

-- the next block is of the first request that is left
pub split_head : {a b : CutBlock} {w bs : List CutBlock} → Split (a ∷ w) (b ∷ bs) → b.request ≡ a.request
split_head (whole e s) = ap (λ (x : CutBlock). x.request) e
split_head (part e p q s) = ap (λ (x : CutBlock). x.request) e

pub split_nil : {w : List CutBlock} → Split w [] → w ≡ []
split_nil done = refl

pub split_none : {b : CutBlock} {bs : List CutBlock} → Split [] (b ∷ bs) → ⊥
split_none = elim [ ]
