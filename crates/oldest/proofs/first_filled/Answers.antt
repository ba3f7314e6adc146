use mathlib.Core.Path.{sym, ◌∙◌}
use native.Mathlib.Nat.{sub-zero}
use native.Mathlib.Omega.{arith}
use borrow.Author.Rules.{rules}
use Rattle.lists.proofs.First.{first_hit, first_miss, first_none}
use Rattle.oldest.specs.Steps.{filled_at}
use Rattle.oldest.proofs.Words.{word_filled, word_empty}
use Rattle.oldest.proofs.first_filled.Goals as goal

pub loop-i-init : goal.loop-i-init
loop-i-init c = rw sub-zero

pub returns-then-cells-start-ge-LEAST_FILLED : goal.returns-then-cells-start-ge-LEAST_FILLED
returns-then-cells-start-ge-LEAST_FILLED c =
    record { value = sym (first_hit _ _ _ (search rules) (word_filled _ c.if-cells-start-ge-LEAST_FILLED.true)) ∙ c.loop-i.invariant }

pub loop-i-preserved : goal.loop-i-preserved
loop-i-preserved c =
    sym (first_miss _ _ _ (search rules) (word_empty _ (omega (arith, c.if-cells-start-ge-LEAST_FILLED.false)))) ∙ c.loop-i.invariant

pub returns : goal.returns
returns c =
    let args = c.args in
    record { value = sym (first_none (filled_at args.cells.now args.start) _ _ (search rules)) ∙ c.loop-i.invariant }
