use mathlib.Core.Path.{refl}
use lib.ListN.{length-set}
use borrow.Author.Rules.{rules}
use Rattle.place_window.proofs.Moving.{opens}
use Rattle.place_window.proofs.open_window.Goals as goal

pub empty_others-requires : goal.empty_others-requires
empty_others-requires c =
    record {
      room = rw length-set (search rules);
      some = search rules;
      few = search rules;
    }

pub returns : goal.returns
returns c =
    let args = c.args in
    record {
      place = refl;
      window = rw (c.empty_others.ensures.content, c.cell_index-at.ensures.value) (opens _ _ args.number args.n (search rules) (search rules) args.word);
    }
