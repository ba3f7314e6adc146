-- A property of every element of a list; the statements of most crates use it.
use Rattle.std.specs.Prelude.{List, [], ◌∷◌}

-- every element has the property
abbrev pub All : {A : Type 0} → (A → Type 0) → List A → Type 0
All P [] = Unit {0}
All P (x ∷ xs) = P x × All P xs
