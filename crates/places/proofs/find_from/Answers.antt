use mathlib.Core.Path.{refl, sym, ◌∙◌}
use borrow.Author.Rules.{rules}
use Rattle.lists.proofs.First.{first_hit, first_miss, first_none}
use Rattle.places.proofs.Places.{stream_is, stream_not}
use Rattle.places.proofs.find_from.Goals as goal

pub loop-i-init : goal.loop-i-init
loop-i-init c = refl

pub returns-then-places-i : goal.returns-then-places-i
returns-then-places-i c =
    let loop = c.loop-i in
    record { value = sym (first_hit _ _ _ (search rules) (stream_is _ _ (search rules) c.if-places-i.true)) ∙ loop.invariant }

pub loop-i-preserved : goal.loop-i-preserved
loop-i-preserved c =
    let loop = c.loop-i in
    sym (first_miss _ _ _ (search rules) (stream_not _ _ c.if-places-i.false)) ∙ loop.invariant

pub returns : goal.returns
returns c = record { value = sym (first_none _ _ _ (search rules)) ∙ c.loop-i.invariant }
