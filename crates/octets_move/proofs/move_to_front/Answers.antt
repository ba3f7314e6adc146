use Rattle.std.proofs.Common.{arith}
use Rattle.std.proofs.lemmas.Grind.{common_steps}
use Rattle.std.proofs.lemmas.List.Edits.{sets-eq, paste_all}
use Rattle.octets_move.proofs.move_to_front.Goals as goal

pub returns : goal.returns
returns c = grind (arith, common_steps, sets-eq, paste_all)
