-- Rules: "Refusals", rule "Refused calls". What a call from C answers, and what it leaves behind
-- its pointers to numbers. A contract says that the answer and the numbers after the call are what
-- a definition makes of the numbers before it.
use Rattle.std.specs.Prelude.{ℕ, List, ◌∷◌, [], Result, Ok, Err}
use Rattle.refusal.specs.Numbers.{number_of}
use Rattle.refusal.specs.declared.Refusal.{Refusal}
use Rattle.metric.specs.Metric.{case_number}
use Rattle.metric.specs.declared.Metric.{Metric}
use Rattle.metric_fields.specs.Fields.{mark_or, offset_or}

-- the answer, and the numbers behind the pointers, in their order
pub record Called : Type 0 where
  pub answer : ℕ
  pub behind : List ℕ

abbrev pub called : ℕ → List ℕ → Called
called a b = record { answer = a; behind = b }

-- 0, or the refusal's number
abbrev pub refusal_number : Result (Unit {0}) Refusal → ℕ
refusal_number (Ok tt) = 0
refusal_number (Err e) = number_of e

-- a refusal's number, and the numbers as they were
abbrev pub refused_with : Refusal → List ℕ → Called
refused_with e before = called (number_of e) before

-- what `put_case` makes of a case: its number as the answer; mark and offset behind two pointers, as they were
-- where the case has none
abbrev pub case_called : Metric → ℕ → ℕ → Called
case_called m mark offset = called (case_number m) (mark_or m mark ∷ offset_or m offset ∷ [])

-- a case behind three pointers: its number always; mark and offset as they were where the case has none
abbrev pub case_behind : Metric → ℕ → ℕ → List ℕ
case_behind m mark offset = case_number m ∷ mark_or m mark ∷ offset_or m offset ∷ []
