-- Rules: "What a sender's store means", rule "History of a sent stream". A stream by itself: what
-- its own accepted registrations and the reports on it make of it, whatever comes for others.
use Rattle.std.specs.Prelude.{ℕ, cond, ◌≡◌, List, [], ◌∷◌, ◌++◌, eqb, leb, Ok, Err}
use Rattle.metric.specs.Metric.{decode_of}
use Rattle.metric.specs.declared.Metric.{Metric}
use Rattle.reader.specs.Reading.{Decoded, packet, refused, decode_packet}
use Rattle.streams.specs.Full.{full_of, is_too_old, fulls_of, top_of}
use Rattle.streams.specs.Model.{Place, free, highest_in, entries_in}
use Rattle.streams.specs.Alone.{next_full, with_one, noted_by}
use Rattle.sent_block.specs.Reports.{NumberReport, reports_of}
use Rattle.sent_history.specs.Calls.{Call, register, take_in, CallAnswer, to_registration, to_taking_in}
use Rattle.sent_history.specs.Meaning.{Event, Entry, entry_of, was_registered, was_reported}

-- what happened to a stream: a sequence number was registered; a packet reported one
pub data Happened : Type 0 where
  sent : ℕ → Happened
  heard : ℕ → Metric → ℕ → Happened

-- the reports of a packet that name the stream
unfoldable pub heard_in : ℕ → ℕ → List NumberReport → List Happened
heard_in ssrc rts [] = []
heard_in ssrc rts (r ∷ rs) =
    let rest = heard_in ssrc rts rs in
    cond (eqb r.ssrc ssrc) (heard r.number (decode_of r.metric) rts ∷ rest) rest

abbrev pub heard_as : ℕ → Decoded → List Happened
heard_as ssrc (packet p) = heard_in ssrc p.rts (reports_of p.blocks)
heard_as ssrc (refused e) = []

-- what one call with its answer adds; the answer to taking in is none to a registration
abbrev pub happened_by : ℕ → Call → CallAnswer → List Happened
happened_by ssrc (register x number) (to_registration (Ok tt)) = cond (eqb x ssrc) (sent number ∷ []) []
happened_by ssrc (register x number) (to_registration (Err e)) = []
happened_by ssrc (register x number) (to_taking_in t) = []
happened_by ssrc (take_in s) a = heard_as ssrc (decode_packet s)

-- rule "History of a sent stream", from all calls to a fresh store, and the answers to them
abbrev pub history_of : ℕ → List Call → List CallAnswer → List Happened
history_of ssrc [] xs = []
history_of ssrc (c ∷ cs) [] = []
history_of ssrc (c ∷ cs) (x ∷ xs) = happened_by ssrc c x ++ history_of ssrc cs xs

-- an accepted registration counts on, and takes a place for a new stream; a report is entered
-- where its number is in the window
abbrev pub stream_after : ℕ → Place Entry → Happened → Place Entry
stream_after ssrc P (sent number) = with_one (entry_of was_registered) ssrc P (next_full P number)
stream_after ssrc P (heard number m rts) = noted_by (entry_of (was_reported m rts)) ssrc P number

unfoldable pub stream_from : ℕ → Place Entry → List Happened → Place Entry
stream_from ssrc P [] = P
stream_from ssrc P (h ∷ hs) = stream_from ssrc (stream_after ssrc P h) hs

-- what the stream is after its history
abbrev pub stream_by : ℕ → List Happened → Place Entry
stream_by ssrc hs = stream_from ssrc free hs

-- ---- what was heard of a held stream by itself: a packet moves no window

-- a report by the window of the highest full number top: its entry, or none where its number is not in the window
abbrev pub reported_entry : ℕ → ℕ → Metric → ℕ → List Entry
reported_entry top number m rts =
    let full = full_of top number in
    cond (leb full top) (cond (is_too_old top full) [] (entry_of (was_reported m rts) full ∷ [])) []

-- all that was heard, in its order
unfoldable pub reported_entries : ℕ → List Happened → List Entry
reported_entries top [] = []
reported_entries top (sent number ∷ hs) = reported_entries top hs
reported_entries top (heard number m rts ∷ hs) = reported_entry top number m rts ++ reported_entries top hs

-- ---- the registrations of a history by themselves

-- the sequence numbers of the accepted registrations, in their order
abbrev pub sent_in : List Happened → List ℕ
sent_in [] = []
sent_in (sent number ∷ hs) = number ∷ sent_in hs
sent_in (heard number m rts ∷ hs) = sent_in hs

-- the full numbers of the entries that are registrations, in their order
abbrev pub with_full : Event → ℕ → List ℕ → List ℕ
with_full was_registered full rest = full ∷ rest
with_full (was_reported m rts) full rest = rest

unfoldable pub registered_in : List Entry → List ℕ
registered_in [] = []
registered_in (e ∷ es) = with_full e.event e.full (registered_in es)

-- the stream is held exactly if a registration was accepted; its highest full number and its
-- registered full numbers go by the accepted registrations alone, whatever was reported
pub record ByRegistrations (P : Place Entry) (numbers : List ℕ) : Type 0 where
  pub none : numbers ≡ [] → P ≡ free
  pub some : P ≡ free → numbers ≡ []
  pub highest : highest_in P ≡ top_of numbers
  pub entered : registered_in (entries_in P) ≡ fulls_of numbers
