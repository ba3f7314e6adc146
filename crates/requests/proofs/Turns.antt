-- The checks of the requests, a turn at a time. Assumes nothing.
use mathlib.Core.Path.{◌≡◌, sym, ap, ◌∙◌}
use mathlib.Core.List.{List}
use Prim.Native.Nat.{ℕ, ◌+◌, ◌≤◌, ◌<◌}
use native.Mathlib.Omega.{arith}
use native.Mathlib.Numerals.{add-one}
use native.Mathlib.Decide.{ℕ_discrete}
use lib.ListN.{length, take, drop, get_or, set}
use lib.Seq.{take-suc, get_or-set_same, get_or-set_other}
use Rattle.lists.proofs.Cases.{never}
use Rattle.refusal.specs.declared.Refusal.{Refusal}
use Rattle.places.specs.Place.{find_of}
use Rattle.cutting.specs.Cutting.{stream_of}
use Rattle.cutting.specs.declared.Request.{Request}
use Rattle.cutting.proofs.Requests.{no_request, rest_cons, rest_none}
use Rattle.std.specs.Prelude.{Result, Some, Ok, Err}
use Rattle.request_check.specs.Check.{check_of}
use Rattle.requests.specs.Requests.{and_then, checked}

module _ (rs : List Request) where
  -- the checks starting at i
  pub checked_at : (places : List ℕ) (i : ℕ) → i < length rs
      → checked places (take i rs) (drop i rs)
      ≡ and_then (check_of places (take i rs) (get_or rs i no_request)) (checked places (take (i + 1) rs) (drop (i + 1) rs))
  unfolding checked
  checked_at places i h = rw (rest_cons rs i h, add-one, take-suc rs i no_request h)

  -- a turn: the request is sound, or not
  module _ (places : List ℕ) (i : ℕ) (h : i < length rs) (f : Result ℕ Refusal) (c : f ≡ check_of places (take i rs) (get_or rs i no_request))
      (whole : Result (Unit {0}) Refusal) (u : checked places (take i rs) (drop i rs) ≡ whole) where
    pub checked_on : (p : ℕ) → f ≡ Ok p → checked places (take (i + 1) rs) (drop (i + 1) rs) ≡ whole
    checked_on p e =
        ap (λ (x : Result ℕ Refusal). and_then x (checked places (take (i + 1) rs) (drop (i + 1) rs))) (sym e ∙ c)
        ∙ sym (checked_at places i h) ∙ u

    pub checked_fault : (x : Refusal) → f ≡ Err x → Err x ≡ whole
    checked_fault x e =
        ap (λ (y : Result ℕ Refusal). and_then y (checked places (take (i + 1) rs) (drop (i + 1) rs))) (sym e ∙ c)
        ∙ sym (checked_at places i h) ∙ u

  pub checked_none : (places : List ℕ) (i : ℕ) → length rs ≤ i → checked places (take i rs) (drop i rs) ≡ Ok tt
  unfolding checked
  checked_none places i h = rw (rest_none rs i h)

-- `found` has the places of the first i requests
abbrev pub FoundTo : List ℕ → List Request → List ℕ → ℕ → Type 0
FoundTo places rs found i = (k : ℕ) → k < i → find_of places (stream_of rs k) ≡ Some (get_or found k 0)

pub found_none : (places : List ℕ) (rs : List Request) (found : List ℕ) → FoundTo places rs found 0
found_none places rs found k h = absurd (omega arith)

pub found_more : (places : List ℕ) (rs : List Request) (found : List ℕ) (i p : ℕ) → i < length found
    → FoundTo places rs found i → find_of places (stream_of rs i) ≡ Some p
    → FoundTo places rs (set found i p) (i + 1)
found_more places rs found i p h u f k l =
    elim (ℕ_discrete k i) [
      | yes e ↦ rw (e, get_or-set_same found i p 0 h) f
      | no e ↦ rw (get_or-set_other found i k p 0 e) (u k (omega arith))
    ]

pub no_fault : (x : Refusal) → ◌≡◌ {A = Result (Unit {0}) Refusal} (Err x) (Ok tt) → ⊥
no_fault x e = never (cc)
