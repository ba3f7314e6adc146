-- Rules: "Kinds of arrival", "Order of refusals". What the call for C that records an arrival
-- answers, 0 or the number of a refusal, and what it leaves in the store and behind `arrival`.
use Rattle.std.specs.Prelude.{ℕ, List, set, Result, Ok, Err}
use Rattle.refusal.specs.Numbers.{number_of}
use Rattle.places.specs.After.{StoreAfter}
use Rattle.refusal.specs.declared.Refusal.{Refusal}
use Rattle.admission.specs.declared.ArrivalKind.{ArrivalKind}
use Rattle.admission.specs.declared.ArrivalKind.TheVariants.{First, Ahead, Late, Copy}

-- the number of a kind
abbrev pub arrival_kind_number : ArrivalKind → ℕ
arrival_kind_number First = 0
arrival_kind_number (Ahead n) = 1
arrival_kind_number Late = 2
arrival_kind_number Copy = 3

-- how many numbers an arrival of a kind passed over
abbrev pub passed_over_of : ArrivalKind → ℕ
passed_over_of First = 0
passed_over_of (Ahead n) = n
passed_over_of Late = 0
passed_over_of Copy = 0

-- the answer, the store, and the two numbers behind `arrival`, the fields of struct ccfb_arrival
pub record ArrivalAfter : Type 0 where
  pub answer : ℕ
  pub places : List ℕ
  pub cells : List ℕ
  pub arrival : List ℕ

abbrev pub arrival_after : ℕ → List ℕ → List ℕ → List ℕ → ArrivalAfter
arrival_after r p c a = record { answer = r; places = p; cells = c; arrival = a }

-- 0, or the number of the refusal
abbrev pub arrival_refusal : Result ArrivalKind Refusal → ℕ
arrival_refusal (Ok k) = 0
arrival_refusal (Err e) = number_of e

-- the kind's number and then how many numbers were passed over; where refused, as they were
abbrev pub arrival_behind : Result ArrivalKind Refusal → List ℕ → List ℕ
arrival_behind (Ok k) before = set (set before 0 (arrival_kind_number k)) 1 (passed_over_of k)
arrival_behind (Err e) before = before

-- `ccfb_arrive`
abbrev pub arrive_called : StoreAfter (Result ArrivalKind Refusal) → List ℕ → ArrivalAfter
arrive_called o before =
    arrival_after (arrival_refusal o.answer) o.places o.cells (arrival_behind o.answer before)
