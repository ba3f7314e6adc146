use Rattle.line_hex.proofs.Hex.{text_put}
use Rattle.line_hex.proofs.put_text.Goals as goal

pub returns : goal.returns
returns c = record { content = text_put _ _ _ _ c.requires.room c.copy_from_slice.ensures.after }
