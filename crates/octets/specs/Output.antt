-- Rules: "What each call owes", rule "One answer". What a call that writes octets leaves: its
-- answer, and the content of its output.
use Rattle.std.specs.Prelude.{ℕ, List}

-- the answer to a call, and what its output then holds
pub record OutputAfter (A : Type 0) : Type 0 where
  pub answer : A
  pub output : List ℕ

abbrev pub output_after : {A : Type 0} → A → List ℕ → OutputAfter A
output_after a out = record { answer = a; output = out }
