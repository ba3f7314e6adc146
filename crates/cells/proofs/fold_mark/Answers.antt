use borrow.Author.Rules.{rules}
use Rattle.cells.specs.Cell.{folded_mark}
use Rattle.cells.proofs.Table.{entry_at}
use Rattle.cells.proofs.fold_mark.Goals as goal

-- The test of the whole table: what is to be proved has the table as the code has it, and the lemma has `folded_mark`
-- written out. The checker computes both, and compares them entry by entry.
pub returns : goal.returns
unfolding folded_mark
returns c =
    let args = c.args in
    record { value = entry_at 4 4 folded_mark args.held args.copy (search rules) (search rules) }
