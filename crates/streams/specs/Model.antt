-- Rules: "Arrivals and the window", "What a store means". The meaning of places and windows as a
-- machine of its own, without cells and rings: each place is free, or holds a stream with its SSRC,
-- its highest full number and its entries in their order, whatever an entry is.
use Rattle.std.specs.Prelude.{ℕ, max, Bool, true, false, cond, List, [], ◌∷◌, ◌++◌, length, get_or, set, replicate, eqb, leb}
use Rattle.lists.specs.First.{first_from}
use Rattle.std.specs.Prelude.{Option, Some, None}
use Rattle.refusal.specs.declared.Refusal.{Refusal}
use Rattle.streams.specs.Full.{full_of, first_full, is_too_old}
use Rattle.refusal.specs.declared.Refusal.TheVariants.{NoFreePlace, TooOld}

pub data Place (E : Type 0) : Type 0 where
  free : Place E
  stream : ℕ → ℕ → List E → Place E

-- the answer to a call, and the places that it leaves
pub record ModelAfter (E A : Type 0) : Type 0 where
  pub answer : A
  pub places : List (Place E)

abbrev pub model_after : {E A : Type 0} → A → List (Place E) → ModelAfter E A
model_after a ps = record { answer = a; places = ps }

module _ {E : Type 0} where
  abbrev pub names : ℕ → Place E → Bool
  names ssrc free = false
  names ssrc (stream x top es) = eqb x ssrc

  abbrev pub is_vacant : Place E → Bool
  is_vacant free = true
  is_vacant (stream x top es) = false

  abbrev pub highest_in : Place E → ℕ
  highest_in free = 0
  highest_in (stream x top es) = top

  abbrev pub entries_in : Place E → List E
  entries_in free = []
  entries_in (stream x top es) = es

  abbrev pub at : List (Place E) → ℕ → Place E
  at ps k = get_or ps k free

  -- the place of a stream, and the lowest free place
  abbrev pub find_in : List (Place E) → ℕ → Option ℕ
  find_in ps ssrc = first_from (λ (k : ℕ). names ssrc (at ps k)) 0 (length ps)

  abbrev pub vacant_in : List (Place E) → Option ℕ
  vacant_in ps = first_from (λ (k : ℕ). is_vacant (at ps k)) 0 (length ps)

  -- what the place that was found holds; nothing where none was
  abbrev pub found_in : Option ℕ → List (Place E) → Place E
  found_in (Some k) ps = at ps k
  found_in None ps = free

  abbrev pub stream_in : List (Place E) → ℕ → Place E
  stream_in ps ssrc = found_in (find_in ps ssrc) ps

  -- a number of free places
  abbrev pub vacant : ℕ → List (Place E)
  vacant n = replicate n free

-- an entry is made of its full number
module _ {E : Type 0} (entry : ℕ → E) where
  -- the stream at the place k with one more entry
  abbrev pub added_at : List (Place E) → ℕ → ℕ → ℕ → List (Place E)
  added_at ps k ssrc full =
      set ps k (stream ssrc (max (highest_in (at ps k)) full) (entries_in (at ps k) ++ (entry full ∷ [])))

  -- an entry that leaves the window where it is; a number that is not in it is ignored
  unfoldable pub noted_at : List (Place E) → ℕ → ℕ → ℕ → List (Place E)
  noted_at ps k ssrc full =
      cond (leb full (highest_in (at ps k)))
      (cond (is_too_old (highest_in (at ps k)) full) ps (added_at ps k ssrc full))
      ps

  abbrev pub noted_in : Option ℕ → List (Place E) → ℕ → ℕ → List (Place E)
  noted_in (Some k) ps ssrc number = noted_at ps k ssrc (full_of (highest_in (at ps k)) number)
  noted_in None ps ssrc number = ps

  -- a stream that no place holds is ignored too
  abbrev pub noted : List (Place E) → ℕ → ℕ → List (Place E)
  noted ps ssrc number = noted_in (find_in ps ssrc) ps ssrc number

module _ {E A : Type 0} (accepted : A) (refused : Refusal → A) (entry : ℕ → E) where
  -- an entry that moves the window on: 3 where its number is too old
  unfoldable pub later_at : List (Place E) → ℕ → ℕ → ℕ → ModelAfter E A
  later_at ps k ssrc full =
      cond (is_too_old (highest_in (at ps k)) full)
      (model_after (refused TooOld) ps)
      (model_after accepted (added_at entry ps k ssrc full))

  -- the first of a stream takes the lowest free place: 2 where there is none
  abbrev pub started_in : Option ℕ → List (Place E) → ℕ → ℕ → ModelAfter E A
  started_in (Some k) ps ssrc number = model_after accepted (added_at entry ps k ssrc (first_full number))
  started_in None ps ssrc number = model_after (refused NoFreePlace) ps

  abbrev pub admitted_in : Option ℕ → List (Place E) → ℕ → ℕ → ModelAfter E A
  admitted_in (Some k) ps ssrc number = later_at ps k ssrc (full_of (highest_in (at ps k)) number)
  admitted_in None ps ssrc number = started_in (vacant_in ps) ps ssrc number

  -- an entry for a number of a stream: 3 or 2
  abbrev pub admitted : List (Place E) → ℕ → ℕ → ModelAfter E A
  admitted ps ssrc number = admitted_in (find_in ps ssrc) ps ssrc number
