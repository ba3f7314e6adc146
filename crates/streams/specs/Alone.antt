-- Rules: "What a store means", rule "Streams do not mix". What a call makes of the stream that it
-- names, and of no other, over any entries.
use Rattle.std.specs.Prelude.{ℕ, max, ◌≡◌, true, cond, List, [], ◌∷◌, ◌++◌, leb}
use Rattle.refusal.specs.declared.Refusal.{Refusal}
use Rattle.streams.specs.Full.{full_of, first_full, is_too_old}
use Rattle.streams.specs.Model.{Place, free, stream, ModelAfter, model_after, names, highest_in, entries_in, at, stream_in}

module _ {E : Type 0} where
  -- no SSRC in two places
  abbrev pub Once : List (Place E) → Type 0
  Once ps = (x p q : ℕ) → names x (at ps p) ≡ true → names x (at ps q) ≡ true → p ≡ q

  -- the places after a call on the stream x: still no SSRC in two places, x is P now, and any other stream what it was
  pub record Only (ps : List (Place E)) (x : ℕ) (ps' : List (Place E)) (P : Place E) : Type 0 where
    pub once : Once ps'
    pub own : stream_in ps' x ≡ P
    pub others : (y : ℕ) → (y ≡ x → ⊥) → stream_in ps' y ≡ stream_in ps y

  -- the full number of a number that moves the window of the stream, which was P
  abbrev pub next_full : Place E → ℕ → ℕ
  next_full free number = first_full number
  next_full (stream x top es) number = full_of top number

-- an entry is made of its full number
module _ {E : Type 0} (entry : ℕ → E) where
  -- the stream x, which was P, with one more entry
  abbrev pub with_one : ℕ → Place E → ℕ → Place E
  with_one x P full = stream x (max (highest_in P) full) (entries_in P ++ (entry full ∷ []))

  -- the stream x, which was P, where the number is noted: with one more entry if it is in the window, else as it was
  abbrev pub noted_by : ℕ → Place E → ℕ → Place E
  noted_by x free number = free
  noted_by x (stream z top es) number =
      cond (leb (full_of top number) top)
      (cond (is_too_old top (full_of top number)) (stream z top es) (with_one x (stream z top es) (full_of top number)))
      (stream z top es)

  -- accepted, and the stream has one more entry; or refused, and nothing changed
  pub data Admitted {A : Type 0} (accepted : A) (refused : Refusal → A) (ps : List (Place E)) (x number : ℕ) : ModelAfter E A → Type 0 where
    entered : (ps' : List (Place E)) → Only ps x ps' (with_one x (stream_in ps x) (next_full (stream_in ps x) number))
        → Admitted accepted refused ps x number (model_after accepted ps')
    kept : (e : Refusal) → Admitted accepted refused ps x number (model_after (refused e) ps)
