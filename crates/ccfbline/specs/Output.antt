-- Rules: "ccfbline". What the program writes for its input, before it is printed.
use Rattle.std.specs.Prelude.{ℕ, ◌≤◌, ◌≡◌, Result, Ok, Err}
use mathlib.Core.List.{List, [], flatten}
use Rattle.lists.specs.All.{All}
use Rattle.octets.specs.Octets.{Octets}
use Rattle.octets.specs.Output.{output_after}
use Rattle.intake.specs.Intake.{intake_after, at_start}
use Rattle.line_hex.specs.Hex.{put_text}
use Rattle.line_store.specs.Fresh.{fresh_places, fresh_cells}
use Rattle.line.specs.Line.{text_room}
use Rattle.line.specs.Printed.{printed}
use Rattle.line_input.specs.Taken.{StopsAtFault}

-- For some pieces of octets, the front of the output holds what is printed for the file that they make, and the answer is
-- its length. No piece comes after the file's first fault. That the input gave these pieces no contract can say.
pub record TextFor (out : List ℕ) (n : ℕ) (exit : List ℕ) : Type 0 where
  pub pieces : List (List ℕ)
  pub octets : All Octets pieces
  pub stops : StopsAtFault (intake_after at_start fresh_places fresh_cells []) pieces
  pub text : output_after n exit ≡ put_text out (printed (flatten pieces))
  pub fits : n ≤ text_room

-- an input that could not be read leaves the output as it was
abbrev pub OutputFor : {E : Type 0} → List ℕ → Result ℕ E → List ℕ → Type 0
OutputFor out (Ok n) exit = TextFor out n exit
OutputFor out (Err e) exit = exit ≡ out
