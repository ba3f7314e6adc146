use mathlib.Core.Path.{sym, ap, ◌∙◌}
use Rattle.octets.specs.Output.{OutputAfter}
use Rattle.std.specs.Prelude.{ℕ, Result}
use Rattle.refusal.specs.declared.Refusal.{Refusal}
use Rattle.ccfb_rewriter.specs.Rewriting.{rewrite_called_by, rewrite_called}
use borrow.Author.Rules.{rules}
use Rattle.ccfb_rewriter.proofs.ccfb_rewrite.Goals as goal

pub returns-in-Ok : goal.returns-in-Ok
returns-in-Ok c =
    let args = c.args in
    record {
      after = ap (λ (x : Result ℕ Refusal). rewrite_called_by x c.rewrite-answer.new.out args.written.now) (sym c.in-Ok.is)
          ∙ ap (λ (o : OutputAfter (Result ℕ Refusal)). rewrite_called o args.written.now) c.rewrite-answer.ensures.after;
    }

pub returns-in-Err : goal.returns-in-Err
returns-in-Err c =
    let args = c.args in
    record {
      after = rw c.number.ensures.value
          (ap (λ (x : Result ℕ Refusal). rewrite_called_by x c.rewrite-answer.new.out args.written.now) (sym c.in-Err.is)
          ∙ ap (λ (o : OutputAfter (Result ℕ Refusal)). rewrite_called o args.written.now) c.rewrite-answer.ensures.after);
    }
