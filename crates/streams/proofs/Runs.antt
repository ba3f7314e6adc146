-- Two machines that answer each call alike answer all calls alike. Assumes nothing.
use mathlib.Core.Path.{◌≡◌, refl}
use mathlib.Core.List.{List, [], ◌∷◌}
use Rattle.lists.specs.All.{All}
use Rattle.streams.specs.Runs.{run, answers}

-- the states of the two are related, and each call in range keeps that
module _ {S T C A : Type 0} (step : S → C → S) (answer : S → C → A) (step' : T → C → T) (answer' : T → C → A)
    (Related : S → T → Type 0) (InRange : C → Type 0)
    (alike : (s : S) (t : T) → Related s t → (c : C) → InRange c → (answer s c ≡ answer' t c) × Related (step s c) (step' t c)) where
  pub simulated : (cs : List C) → All InRange cs → (s : S) (t : T) → Related s t
      → (answers step answer s cs ≡ answers step' answer' t cs) × Related (run step answer s cs) (run step' answer' t cs)
  simulated [] range s t related = (refl, related)
  simulated (c ∷ cs) range s t related =
      let first = alike s t related c range.0 in
      let rest = simulated cs range.1 (step s c) (step' t c) first.1 in
      (rw (first.0, rest.0), rest.1)
