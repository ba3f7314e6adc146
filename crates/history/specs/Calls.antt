-- Rules: "What a store means". The calls that change a store, in the order in which they are made,
-- and the answers to them; and the accepted arrivals of a stream, as the answers say.
use Rattle.std.specs.Prelude.{ℕ, ◌<◌, ◌^◌, Bool, true, false, cond, ◌&&◌, List, [], ◌∷◌, ◌++◌, eqb}
use Rattle.std.specs.Prelude.{Option, Result, Ok, Err}
use Rattle.admission.specs.declared.ArrivalKind.{ArrivalKind}
use Rattle.refusal.specs.declared.Refusal.{Refusal}
use Rattle.metric.specs.Metric.{TimeInRange}
use Rattle.arrivals.specs.Arrivals.{arrived}
use Rattle.store.specs.Store.{forgotten}
use Rattle.window.specs.Number.{sequence_numbers}
use Rattle.streams.specs.Reading.{Store}
use Rattle.streams.specs.Runs.{run, answers}

-- arrive: SSRC, sequence number, mark, time. forget: SSRC
pub data Call : Type 0 where
  arrive : ℕ → ℕ → ℕ → Option ℕ → Call
  forget : ℕ → Call

pub data CallAnswer : Type 0 where
  to_arrival : Result ArrivalKind Refusal → CallAnswer
  to_forgetting : Result (Unit {0}) Refusal → CallAnswer

abbrev pub store_step : Store → Call → Store
store_step st (arrive ssrc number mark time) =
    let o = arrived st.places st.cells ssrc number mark time in
    record { places = o.places; cells = o.cells }
store_step st (forget ssrc) = record { places = (forgotten st.places st.cells ssrc).places; cells = st.cells }

abbrev pub store_answer : Store → Call → CallAnswer
store_answer st (arrive ssrc number mark time) = to_arrival (arrived st.places st.cells ssrc number mark time).answer
store_answer st (forget ssrc) = to_forgetting (forgotten st.places st.cells ssrc).answer

abbrev pub store_run : Store → List Call → Store
store_run st cs = run store_step store_answer st cs

abbrev pub store_answers : Store → List Call → List CallAnswer
store_answers st cs = answers store_step store_answer st cs

-- an accepted arrival of a stream
pub record Accepted : Type 0 where
  pub number : ℕ
  pub mark : ℕ
  pub time : Option ℕ

abbrev pub is_done : CallAnswer → Bool
is_done (to_arrival (Ok kind)) = true
is_done (to_arrival (Err e)) = false
is_done (to_forgetting (Ok tt)) = true
is_done (to_forgetting (Err e)) = false

-- a stream's accepted arrivals after one more call, which was done or refused
abbrev pub heard : ℕ → List Accepted → Call → Bool → List Accepted
heard ssrc past (arrive x number mark time) done =
    cond (eqb x ssrc && done) (past ++ (record { number = number; mark = mark; time = time } ∷ [])) past
heard ssrc past (forget x) done = cond (eqb x ssrc && done) [] past

-- those after all calls, by the answers to them
abbrev pub heard_all : ℕ → List Accepted → List Call → List CallAnswer → List Accepted
heard_all ssrc past [] xs = past
heard_all ssrc past (c ∷ cs) [] = past
heard_all ssrc past (c ∷ cs) (x ∷ xs) = heard_all ssrc (heard ssrc past c (is_done x)) cs xs

-- rule "History of a stream", from all calls to a fresh store, and the answers to them
abbrev pub accepted_of : ℕ → List Call → List CallAnswer → List Accepted
accepted_of ssrc cs xs = heard_all ssrc [] cs xs

-- what the types of a call's parameters say of them
abbrev pub CallInRange : Call → Type 0
CallInRange (arrive ssrc number mark time) = (ssrc < 2 ^ 32) × ((number < sequence_numbers) × TimeInRange time)
CallInRange (forget ssrc) = ssrc < 2 ^ 32
