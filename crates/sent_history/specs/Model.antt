-- Rules: "What a sender's store means". The meaning as a machine of its own, the one of `streams`:
-- it keeps for each stream its highest full number, the full numbers registered, and what was
-- reported, in its order, each under the full number that it had at that moment.
use Rattle.std.specs.Prelude.{ℕ, cond, List, [], ◌∷◌, leb, Result, Ok, Err}
use Rattle.metric.specs.Metric.{decode_of}
use Rattle.reader.specs.Reading.{Decoded, packet, refused, decode_packet}
use Rattle.streams.specs.Full.{full_of, is_too_old}
use Rattle.streams.specs.Model.{Place, free, stream, ModelAfter, model_after, stream_in, admitted, noted}
use Rattle.streams.specs.Runs.{run, answers}
use Rattle.refusal.specs.declared.Refusal.{Refusal}
use Rattle.sent_word.specs.declared.Status.{Status}
use Rattle.sent_status.specs.Status.{answer_of}
use Rattle.sent_block.specs.Reports.{NumberReport, reports_of}
use Rattle.sent_history.specs.Calls.{Call, register, take_in, CallAnswer, to_registration, to_taking_in}
use Rattle.sent_history.specs.Meaning.{Entry, entry_of, was_registered, was_reported, shown_by}
use Rattle.refusal.specs.declared.Refusal.TheVariants.{NotHeld, NotRegistered}

-- registering a number: 3 or 2
abbrev pub model_registered : List (Place Entry) → ℕ → ℕ → ModelAfter Entry (Result (Unit {0}) Refusal)
model_registered ps ssrc number = admitted (Ok tt) Err (entry_of was_registered) ps ssrc number

-- one report, and all of a packet
abbrev pub note_report : ℕ → List (Place Entry) → NumberReport → List (Place Entry)
note_report rts ps r = noted (entry_of (was_reported (decode_of r.metric) rts)) ps r.ssrc r.number

unfoldable pub note_all : ℕ → List (Place Entry) → List NumberReport → List (Place Entry)
note_all rts ps [] = ps
note_all rts ps (r ∷ rs) = note_all rts (note_report rts ps r) rs

-- taking in a packet: the reader's refusals
abbrev pub model_taken : Decoded → List (Place Entry) → ModelAfter Entry (Result (Unit {0}) Refusal)
model_taken (packet p) ps = model_after (Ok tt) (note_all p.rts ps (reports_of p.blocks))
model_taken (refused e) ps = model_after (Err e) ps

-- the machine: each call in turn
abbrev pub model_step : List (Place Entry) → Call → List (Place Entry)
model_step ps (register ssrc number) = (model_registered ps ssrc number).places
model_step ps (take_in s) = (model_taken (decode_packet s) ps).places

abbrev pub model_answer : List (Place Entry) → Call → CallAnswer
model_answer ps (register ssrc number) = to_registration (model_registered ps ssrc number).answer
model_answer ps (take_in s) = to_taking_in (model_taken (decode_packet s) ps).answer

abbrev pub model_run : List (Place Entry) → List Call → List (Place Entry)
model_run ps cs = run model_step model_answer ps cs

abbrev pub model_answers : List (Place Entry) → List Call → List CallAnswer
model_answers ps cs = answers model_step model_answer ps cs

-- what is known of a full number of a stream: 37 outside the window, and for what was never registered
unfoldable pub shown_at : ℕ → ℕ → List Entry → Result Status Refusal
shown_at top full es =
    cond (leb full top)
    (cond (is_too_old top full) (Err NotRegistered) (answer_of (shown_by es full)))
    (Err NotRegistered)

-- what is known of a sequence number of a stream: 5, 37
abbrev pub model_status : Place Entry → ℕ → Result Status Refusal
model_status free number = Err NotHeld
model_status (stream ssrc top es) number = shown_at top (full_of top number) es

abbrev pub model_asked : List (Place Entry) → ℕ → ℕ → Result Status Refusal
model_asked ps ssrc number = model_status (stream_in ps ssrc) number
