-- The elements of a list that pass a test.
use Rattle.std.specs.Prelude.{Bool, cond, List, [], ◌∷◌}

-- in their order
unfoldable pub kept : {A : Type 0} → (A → Bool) → List A → List A
kept test [] = []
kept {A} test (x ∷ xs) = let rest : List A = kept test xs in cond (test x) (x ∷ rest) rest
