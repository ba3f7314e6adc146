-- The invariant: what is still to be written gives the whole.
use Rattle.std.proofs.Common.{◌≡◌, ◌*◌, drop}
use Rattle.std.proofs.lemmas.List.Edits.{sets}
use Rattle.line_hex.specs.Hex.{hex_of}
use Rattle.line_hex.proofs.put_hex.Given as goal

abbrev pub invariant-loop-i : goal.invariant-loop-i
invariant-loop-i l = sets l.out (2 * l.i) (hex_of (drop l.i l.packet)) ≡ sets l.initial.out 0 (hex_of l.packet)
