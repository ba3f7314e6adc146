-- Rules: "What a sender's store means". The calls that change a sender's store, in the order in
-- which they are made, and the answers to them.
use Rattle.std.specs.Prelude.{ℕ, ◌<◌, ◌^◌, List, Result}
use Rattle.window.specs.Number.{sequence_numbers}
use Rattle.streams.specs.Reading.{Store}
use Rattle.streams.specs.Runs.{run, answers}
use Rattle.sent_register.specs.Register.{registered}
use Rattle.refusal.specs.declared.Refusal.{Refusal}
use Rattle.sent_feedback.specs.TakeIn.{taken_in}

-- register: SSRC, sequence number. take_in: the octets of a packet
pub data Call : Type 0 where
  register : ℕ → ℕ → Call
  take_in : List ℕ → Call

pub data CallAnswer : Type 0 where
  to_registration : Result (Unit {0}) Refusal → CallAnswer
  to_taking_in : Result (Unit {0}) Refusal → CallAnswer

abbrev pub sender_step : Store → Call → Store
sender_step st (register ssrc number) =
    let o = registered st.places st.cells ssrc number in
    record { places = o.places; cells = o.cells }
sender_step st (take_in s) = record { places = st.places; cells = (taken_in st.places st.cells s).cells }

abbrev pub sender_answer : Store → Call → CallAnswer
sender_answer st (register ssrc number) = to_registration (registered st.places st.cells ssrc number).answer
sender_answer st (take_in s) = to_taking_in (taken_in st.places st.cells s).answer

abbrev pub sender_run : Store → List Call → Store
sender_run st cs = run sender_step sender_answer st cs

abbrev pub sender_answers : Store → List Call → List CallAnswer
sender_answers st cs = answers sender_step sender_answer st cs

-- what the types of a call's parameters say of them
abbrev pub CallInRange : Call → Type 0
CallInRange (register ssrc number) = (ssrc < 2 ^ 32) × (number < sequence_numbers)
CallInRange (take_in s) = Unit {0}
