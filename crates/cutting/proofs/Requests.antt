-- The requests of a list, starting at one of them. Assumes nothing.
use Rattle.std.proofs.Common.{◌≡◌, ℕ, zero, suc, ◌+◌, ◌<◌, ◌≤◌, List, [], ◌∷◌, length, get_or, drop, refl, ap, add-one, arith, drop_of_length-le, drop-cons}
use Rattle.cutting.specs.declared.Request.{Request}
use Rattle.cutting.specs.Cutting.{CutBlock, whole_blocks, stream_of, numbers_from, following}
use Rattle.cutting.specs.Plan.{number_after}

abbrev pub no_request : Request
no_request = record { ssrc = 0; begin = 0; count = 0 }

module _ (rs : List Request) where
  -- the requests starting at i: the one at i, and the others
  pub rest_cons : (i : ℕ) → i < length rs → drop i rs ≡ get_or rs i no_request ∷ drop (i + 1) rs
  rest_cons i h = rw (add-one, drop-cons rs i no_request h)

  pub rest_none : (i : ℕ) → length rs ≤ i → drop i rs ≡ []
  rest_none i h = drop_of_length-le rs {i = i} h

  abbrev pub block_at : ℕ → CutBlock
  block_at i = record { request = i; begin = (get_or rs i no_request).begin; count = (get_or rs i no_request).count }

  pub blocks_cons : (i : ℕ) → i < length rs → whole_blocks i (drop i rs) ≡ block_at i ∷ whole_blocks (i + 1) (drop (i + 1) rs)
  blocks_cons i h = rw (rest_cons i h, add-one)

  pub blocks_none : (i : ℕ) → length rs ≤ i → whole_blocks i (drop i rs) ≡ []
  blocks_none i h = rw (rest_none i h)

-- the stream of a request, by its place
pub stream_at : (rs : List Request) (i : ℕ) → stream_of rs i ≡ (get_or rs i no_request).ssrc
stream_at [] i = refl
stream_at (r ∷ rs) zero = refl
stream_at (r ∷ rs) (suc i) = stream_at rs i

-- k numbers in a row
pub length_numbers : (s k : ℕ) → length (numbers_from s k) ≡ k
length_numbers s zero = refl
length_numbers s (suc k) = ap suc (length_numbers (following s) k)

pub after_add : (s i j : ℕ) → number_after (number_after s i) j ≡ number_after s (i + j)
after_add s zero j = let e : zero + j ≡ j = omega arith in rw e
after_add s (suc i) j =
    let e : suc i + j ≡ suc (i + j) = omega arith in
    rw e (after_add (following s) i j)
