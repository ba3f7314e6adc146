-- Rules: "Arrivals and the window", "Kinds of arrival", "What a store means". The meaning as a
-- machine of its own, the one of `streams`: each place is free, or holds a stream with its SSRC, its
-- highest full number and its accepted arrivals.
use Rattle.std.specs.Prelude.{ℕ, ◌+◌, ◌-◌, ◌%◌, cond, List, set, ltb, Option, Result, Some, None, Ok, Err}
use Rattle.refusal.specs.declared.Refusal.{Refusal}
use Rattle.places.specs.declared.Stream.{Stream}
use Rattle.metric.specs.Metric.{congested}
use Rattle.window.specs.Number.{sequence_numbers}
use Rattle.streams.specs.Full.{full_of}
use Rattle.streams.specs.Model.{Place, free, stream, ModelAfter, model_after, find_in, stream_in, admitted}
use Rattle.streams.specs.Runs.{run, answers}
use Rattle.admission.specs.Kind.{kind_in}
use Rattle.admission.specs.declared.ArrivalKind.{ArrivalKind}
use Rattle.history.specs.Calls.{Call, arrive, forget, CallAnswer, to_arrival, to_forgetting}
use Rattle.history.specs.Meaning.{Entry, entry_of, cell_by}
use Rattle.refusal.specs.declared.Refusal.TheVariants.{BadMark, NotHeld}
use Rattle.admission.specs.declared.ArrivalKind.TheVariants as kind

-- which kind an accepted arrival of a full number is, by the highest before it and the entries so far
unfoldable pub kind_of_full : ℕ → List Entry → ℕ → ArrivalKind
kind_of_full top es full = cond (ltb top full) (kind.Ahead (full - (top + 1))) (kind_in (cell_by es full))

-- by what is known of its stream
abbrev pub model_kind : Place Entry → ℕ → ArrivalKind
model_kind free number = kind.First
model_kind (stream ssrc top es) number = kind_of_full top es (full_of top number)

-- an arrival: refusals 1, then 3 or 2
abbrev pub model_arrived : List (Place Entry) → ℕ → ℕ → ℕ → Option ℕ → ModelAfter Entry (Result ArrivalKind Refusal)
model_arrived ps ssrc number mark time =
    cond (ltb congested mark)
    (model_after (Err BadMark) ps)
    (admitted (Ok (model_kind (stream_in ps ssrc) number)) Err
    (entry_of (record { number = number; mark = mark; time = time })) ps ssrc number)

abbrev pub forgot_at : Option ℕ → List (Place Entry) → ModelAfter Entry (Result (Unit {0}) Refusal)
forgot_at (Some k) ps = model_after (Ok tt) (set ps k free)
forgot_at None ps = model_after (Err NotHeld) ps

-- forgetting a stream: refusal 5
abbrev pub model_forgot : List (Place Entry) → ℕ → ModelAfter Entry (Result (Unit {0}) Refusal)
model_forgot ps ssrc = forgot_at (find_in ps ssrc) ps

-- which stream and highest number a place holds: refusal 5
abbrev pub model_place : Place Entry → Result Stream Refusal
model_place free = Err NotHeld
model_place (stream ssrc top es) = Ok (record { ssrc = ssrc; highest = top % sequence_numbers })

-- the machine: each call in turn
abbrev pub model_step : List (Place Entry) → Call → List (Place Entry)
model_step ps (arrive ssrc number mark time) = (model_arrived ps ssrc number mark time).places
model_step ps (forget ssrc) = (model_forgot ps ssrc).places

abbrev pub model_answer : List (Place Entry) → Call → CallAnswer
model_answer ps (arrive ssrc number mark time) = to_arrival (model_arrived ps ssrc number mark time).answer
model_answer ps (forget ssrc) = to_forgetting (model_forgot ps ssrc).answer

abbrev pub model_run : List (Place Entry) → List Call → List (Place Entry)
model_run ps cs = run model_step model_answer ps cs

abbrev pub model_answers : List (Place Entry) → List Call → List CallAnswer
model_answers ps cs = answers model_step model_answer ps cs
