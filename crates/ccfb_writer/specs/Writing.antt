-- Rules: "Writer", rule "Result". What `ccfb_write` leaves with its caller: 0 and both counts, or a
-- refusal number and the counts as they were.
use Rattle.std.specs.Prelude.{ℕ, List, Result, Ok, Err}
use Rattle.refusal.specs.Numbers.{number_of}
use Rattle.octets.specs.Output.{OutputAfter}
use Rattle.plan_size.specs.declared.Total.{Total}
use Rattle.refusal.specs.declared.Refusal.{Refusal}

-- `ccfb_write`: the answer, the packets and octets written, and the output
pub record Wrote : Type 0 where
  pub answer : ℕ
  pub packets : ℕ
  pub octets : ℕ
  pub out : List ℕ

abbrev pub wrote : ℕ → ℕ → ℕ → List ℕ → Wrote
wrote a p n o = record { answer = a; packets = p; octets = n; out = o }

-- by the writer's answer, and the output it leaves; `packets` and `octets` are the counts before the call
abbrev pub write_called_by : Result Total Refusal → List ℕ → ℕ → ℕ → Wrote
write_called_by (Ok t) out packets octets = wrote 0 t.packets t.octets out
write_called_by (Err e) out packets octets = wrote (number_of e) packets octets out

abbrev pub write_called : OutputAfter (Result Total Refusal) → ℕ → ℕ → Wrote
write_called o packets octets = write_called_by o.answer o.output packets octets
