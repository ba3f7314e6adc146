-- Rules: "Sent packets". What the calls for C of a sender answer, 0 or the number of a refusal, and
-- what they leave in the store and behind their pointers.
use Rattle.std.specs.Prelude.{ℕ, [], ◌∷◌, Result, Ok, Err}
use Rattle.refusal.specs.Numbers.{number_of}
use Rattle.places.specs.After.{StoreAfter, store_after}
use Rattle.sent_word.specs.declared.Status.{Status}
use Rattle.refusal.specs.declared.Refusal.{Refusal}
use Rattle.sent_feedback.specs.TakeIn.{CellsAfter, cells_after}
use Rattle.ccfb_calls.specs.Called.{Called, called, refusal_number, refused_with}
use Rattle.sent_word.specs.declared.Status.TheVariants.{NotReported, Missing, Received, OverRange, NoTime}

-- 0, or the number of the refusal
abbrev pub registration_refusal : Result (Unit {0}) Refusal → ℕ
registration_refusal = refusal_number

abbrev pub taking_refusal : Result (Unit {0}) Refusal → ℕ
taking_refusal = refusal_number

-- `ccfb_register`: the store after the call
abbrev pub register_called : StoreAfter (Result (Unit {0}) Refusal) → StoreAfter ℕ
register_called o = store_after (registration_refusal o.answer) o.places o.cells

-- `ccfb_take_in`: the cells after the call; the places are not written
abbrev pub take_in_called : CellsAfter (Result (Unit {0}) Refusal) → CellsAfter ℕ
take_in_called o = cells_after (taking_refusal o.answer) o.cells

-- the number of a status's kind: that of the metric's case (`kind_of_lem` in proofs/KindNumber.antt), or 4 where there is none
abbrev pub kind_number : Status → ℕ
kind_number Missing = 0
kind_number (Received mark time) = 1
kind_number (OverRange mark) = 2
kind_number (NoTime mark) = 3
kind_number NotReported = 4

-- its mark and its time; a status without one gives the other value
abbrev pub mark_or : Status → ℕ → ℕ
mark_or NotReported other = other
mark_or Missing other = other
mark_or (Received mark time) other = mark
mark_or (OverRange mark) other = mark
mark_or (NoTime mark) other = mark

abbrev pub time_or : Status → ℕ → ℕ
time_or NotReported other = other
time_or Missing other = other
time_or (Received mark time) other = time
time_or (OverRange mark) other = other
time_or (NoTime mark) other = other

-- `ccfb_status`: the kind's number always; mark and time as they were where the status has none, all as they were
-- where refused
abbrev pub status_called : Result Status Refusal → ℕ → ℕ → ℕ → Called
status_called (Ok s) kind mark time = called 0 (kind_number s ∷ mark_or s mark ∷ time_or s time ∷ [])
status_called (Err e) kind mark time = refused_with e (kind ∷ mark ∷ time ∷ [])
