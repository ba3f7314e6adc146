-- Rules: "What a store means". A store reads as the machine says: place by place, and each cell of
-- each window.
use Rattle.std.specs.Prelude.{ℕ, ◌+◌, ◌%◌, ◌≤◌, ◌<◌, ◌≡◌, List, [], ◌∷◌, ◌++◌, length, Option, Some, None}
use Rattle.lists.specs.All.{All}
use Rattle.ring.specs.Ring.{cells_of_a_place}
use Rattle.window.specs.Number.{sequence_numbers}
use Rattle.places.specs.Place.{place_at}
use Rattle.places.specs.Shape.{Shaped}
use Rattle.places.specs.declared.Stream.{Stream}
use Rattle.place_window.specs.Window.{cell_at}
use Rattle.streams.specs.Full.{lowest_full}
use Rattle.streams.specs.Model.{Place, free, stream, at}

-- a store in the two lent slices
pub record Store : Type 0 where
  pub places : List ℕ
  pub cells : List ℕ

-- rule "Fresh store": of the right shape, and every place is free
pub record Fresh (st : Store) : Type 0 where
  pub shape : Shaped st.places st.cells
  pub empty : (k : ℕ) → place_at st.places k ≡ None

-- what the entries of a stream are, and what is known of a number
pub record Meaning (E C : Type 0) : Type 0 where
  -- the full number of an entry
  pub full : E → ℕ
  -- what a cell's word says
  pub read : ℕ → C
  -- what the entries of a stream, in their order, say of a full number
  pub shown : List E → ℕ → C

module _ {E C : Type 0} (M : Meaning E C) where
  -- a cell of which nothing was said reads as 0 does, and an entry says nothing of another number
  pub record Lawful : Type 0 where
    pub silent : (es : List E) (n : ℕ) → All (λ (e : E). M.full e ≡ n → ⊥) es → M.shown es n ≡ M.read 0
    pub other : (es : List E) (e : E) (n : ℕ) → (M.full e ≡ n → ⊥) → M.shown (es ++ (e ∷ [])) n ≡ M.shown es n

  -- f makes of a word what the entry makes of what it says
  abbrev pub Enters : (ℕ → ℕ) → E → Type 0
  Enters f e =
      (word : ℕ) (es : List E) → M.read word ≡ M.shown es (M.full e) → M.read (f word) ≡ M.shown (es ++ (e ∷ [])) (M.full e)

  -- the place k of a store, read as h, with its cells, has the stream's SSRC, its highest full number and its
  -- entries
  pub record Holds (cells : List ℕ) (k : ℕ) (h : Option Stream) (ssrc top : ℕ) (es : List E) : Type 0 where
    pub place : h ≡ Some (record { ssrc = ssrc; highest = top % sequence_numbers })
    pub window : (n : ℕ) → n ≤ top → top < n + cells_of_a_place → M.read (cell_at cells k n) ≡ M.shown es n
    pub begun : sequence_numbers ≤ top
    pub highest : All (λ (e : E). M.full e ≤ top) es
    pub lowest : All (λ (e : E). lowest_full ≤ M.full e) es

  abbrev pub ReadsAt : List ℕ → ℕ → Option Stream → Place E → Type 0
  ReadsAt cells k h free = h ≡ None
  ReadsAt cells k h (stream ssrc top es) = Holds cells k h ssrc top es

  pub record Reads (st : Store) (ps : List (Place E)) : Type 0 where
    pub shape : Shaped st.places st.cells
    pub count : length ps ≡ length st.places
    pub each : (k : ℕ) → ReadsAt st.cells k (place_at st.places k) (at ps k)
