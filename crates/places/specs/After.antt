-- Rules: "What each call owes", rule "One answer". What a call leaves: its answer, and the content
-- of the store that was lent to it.
use Rattle.std.specs.Prelude.{ℕ, List}

-- the answer to a call, and what it leaves in the store
pub record StoreAfter (A : Type 0) : Type 0 where
  pub answer : A
  pub places : List ℕ
  pub cells : List ℕ

abbrev pub store_after : {A : Type 0} → A → List ℕ → List ℕ → StoreAfter A
store_after a p c = record { answer = a; places = p; cells = c }

-- the same of a call that leaves the cells alone
pub record PlacesAfter (A : Type 0) : Type 0 where
  pub answer : A
  pub places : List ℕ

abbrev pub places_after : {A : Type 0} → A → List ℕ → PlacesAfter A
places_after a p = record { answer = a; places = p }
