-- Rules: "Rewriter". What `ccfb_rewrite` answers and leaves: from the rewriter's answer and output,
-- and from what stood there before.
use Rattle.std.specs.Prelude.{ℕ, List, Result, Ok, Err}
use Rattle.refusal.specs.Numbers.{number_of}
use Rattle.octets.specs.Output.{OutputAfter}
use Rattle.refusal.specs.declared.Refusal.{Refusal}

-- the answer, how many octets were written, and the output
pub record Rewrote : Type 0 where
  pub answer : ℕ
  pub written : ℕ
  pub out : List ℕ

abbrev pub rewrote : ℕ → ℕ → List ℕ → Rewrote
rewrote a n o = record { answer = a; written = n; out = o }

-- where refused, the number of octets written stays as it was
abbrev pub rewrite_called_by : Result ℕ Refusal → List ℕ → ℕ → Rewrote
rewrite_called_by (Ok n) out before = rewrote 0 n out
rewrite_called_by (Err e) out before = rewrote (number_of e) before out

abbrev pub rewrite_called : OutputAfter (Result ℕ Refusal) → ℕ → Rewrote
rewrite_called o before = rewrite_called_by o.answer o.output before
