use mathlib.Core.Path.{sym, ◌∙◌}
use borrow.Author.Rules.{rules}
use lib.ListN.{length}
use Rattle.lists.proofs.First.{first_hit, first_miss}
use Rattle.places.specs.Place.{holds}
use Rattle.places.proofs.Places.{stream_is, stream_not, find_from_first}
use Rattle.admission.proofs.place_of.Goals as goal

pub returns-then-places-ssrc : goal.returns-then-places-ssrc
returns-then-places-ssrc c =
    let a = c.args in
    record {
      value = sym (first_hit (holds a.places.now a.ssrc) 0 (length a.places.now) (search rules) (stream_is _ a.ssrc (search rules) c.if-places-ssrc.true))
          ∙ find_from_first a.places.now a.ssrc;
    }

pub returns : goal.returns
returns c =
    let a = c.args in
    record {
      value = c.find_from.ensures.value
          ∙ sym (first_miss (holds a.places.now a.ssrc) 0 (length a.places.now) (search rules) (stream_not _ a.ssrc c.if-places-ssrc.false))
          ∙ find_from_first a.places.now a.ssrc;
    }
