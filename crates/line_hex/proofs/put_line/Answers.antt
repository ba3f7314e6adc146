use Rattle.line_hex.proofs.Hex.{line_put}
use Rattle.line_hex.proofs.put_line.Goals as goal

pub returns : goal.returns
returns c = record { after = line_put _ _ _ c.put_hex.ensures.content }
