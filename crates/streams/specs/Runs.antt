-- Calls one after the other, to anything that has a state.
use Rattle.std.specs.Prelude.{List, [], ◌∷◌}

-- what a call leaves, and its answer
module _ {S C A : Type 0} (step : S → C → S) (answer : S → C → A) where
  abbrev pub run : S → List C → S
  run s [] = s
  run s (c ∷ cs) = run (step s c) cs

  abbrev pub answers : S → List C → List A
  answers s [] = []
  answers s (c ∷ cs) = answer s c ∷ answers (step s c) cs
