use Rattle.place_window.specs.Window.{updated}
use borrow.Author.Rules.{rules}
use Rattle.sent_register.proofs.enter.Goals as goal

pub returns : goal.returns
unfolding updated
returns c = record { content = rw (c.registered_word.ensures.value, c.cell_index-at.ensures.value) }
