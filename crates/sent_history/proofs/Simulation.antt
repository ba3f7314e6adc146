-- A sender's store does as the machine: it answers alike, and reads as the machine says. Assumes nothing.
use Prim.Native.Nat.{ℕ, ◌+◌, ◌%◌, ◌<◌, ◌≤◌}
use mathlib.Core.Path.{◌≡◌, refl, sym, ap, ◌∙◌}
use mathlib.Core.Bool.{Bool, cond}
use mathlib.Core.List.{List, [], ◌∷◌}
use native.Mathlib.Omega.{arith}
use native.Mathlib.Decide.{dec_le, dec_lt}
use borrow.Author.Tests.{le-leb, lt-leb}
use lib.ListN.{length, get_or}
use Rattle.lists.specs.All.{All}
use Rattle.std.specs.Prelude.{Option, Result, Some, None, Ok, Err}
use Rattle.sent_word.specs.declared.Status.{Status}
use Rattle.refusal.specs.declared.Refusal.{Refusal}
use Rattle.lists.proofs.All.{all_join}
use Rattle.lists.proofs.First.{first_true}
use Rattle.metric.specs.Metric.{decode_of}
use Rattle.ring.specs.Ring.{cells_of_a_place}
use Rattle.window.specs.Number.{distance_of, sequence_numbers, farthest_ahead}
use Rattle.places.specs.Place.{place_at, highest_at, find_of}
use Rattle.places.proofs.Held.{held_highest}
use Rattle.places.proofs.Shape.{shaped_is}
use Rattle.packet.specs.Packet.{Block}
use Rattle.reader.specs.Reading.{Decoded, packet, refused, decode_packet}
use Rattle.streams.specs.Full.{full_of, is_too_old}
use Rattle.streams.specs.Model.{Place, stream, names, at, find_in, found_in}
use Rattle.streams.specs.Reading.{Store, Holds, Reads}
use Rattle.streams.proofs.Numbers.{too_old_lem, not_too_old, full_ahead, full_behind, full_low, same_slot}
use Rattle.streams.proofs.Places.{named_is, find_same}
use Rattle.streams.proofs.Admission.{note_alike, note_lost, admit_alike}
use Rattle.streams.proofs.Runs.{simulated}
use Rattle.sent_word.specs.Word.{registered_word, word_reported}
use Rattle.sent_block.specs.Reports.{NumberReport, reports_from, reports_of, reported_at, reported_found, reported, all_reported}
use Rattle.sent_block.proofs.Reports.{reported_at_past, reported_at_in}
use Rattle.sent_feedback.specs.TakeIn.{taken_as_of}
use Rattle.sent_status.specs.Status.{answer_of, status_at, asked_at, status_asked}
use Rattle.sent_status.proofs.Calls.{status_past, status_within}
use Rattle.sent_history.specs.Calls.{Call, register, take_in, to_registration, to_taking_in, sender_step, sender_answer, sender_run, sender_answers, CallInRange}
use Rattle.sent_history.specs.Meaning.{Entry, was_registered, was_reported, entry_of, shown_by}
use Rattle.sent_history.specs.Model.{note_report, note_all, model_taken, model_step, model_answer}
use Rattle.sent_history.specs.Model.{model_run, model_answers, shown_at, model_status, model_asked}
use Rattle.sent_history.specs.Reading.{sent_meaning}
use Rattle.sent_history.proofs.Lawful.{shown_lawful, register_enters, report_enters}
use Rattle.refusal.specs.declared.Refusal.TheVariants.{NotRegistered}

-- ---- one report
abbrev with : Store → List ℕ → Store
with st cells = record { places = st.places; cells = cells }

abbrev NumberLow : NumberReport → Type 0
NumberLow r = r.number < sequence_numbers

report_alike : (st : Store) (ps : List (Place Entry)) → Reads sent_meaning st ps → (rts : ℕ) (r : NumberReport) → NumberLow r
    → Reads sent_meaning (with st (reported st.places rts st.cells r)) (note_report rts ps r)
unfolding reported
report_alike st ps R rts r low = by (find_of st.places r.ssrc) refl
  where
    by : (f : Option ℕ) → find_of st.places r.ssrc ≡ f
        → Reads sent_meaning (with st (reported_found f st.places rts st.cells r.number r.metric)) (note_report rts ps r)
    by (Some k) e =
        note_alike sent_meaning shown_lawful st ps R (word_reported r.metric rts) (entry_of (was_reported (decode_of r.metric) rts)) (λ n. refl)
        (report_enters r.metric rts) r.ssrc r.number low k e (reported_at k (highest_at st.places k) rts st.cells r.number r.metric)
        (reported_at_in k (highest_at st.places k) rts st.cells r.number r.metric)
        (reported_at_past k (highest_at st.places k) rts st.cells r.number r.metric)
    by None e =
        note_lost sent_meaning shown_lawful st ps R (word_reported r.metric rts) (entry_of (was_reported (decode_of r.metric) rts)) (λ n. refl)
        (report_enters r.metric rts) r.ssrc r.number low e

-- ---- the reports of a packet
from_low : (ssrc begin j : ℕ) (ms : List ℕ) → All NumberLow (reports_from ssrc begin j ms)
unfolding reports_from
from_low ssrc begin j [] = tt
from_low ssrc begin j (m ∷ ms) = (omega arith, from_low ssrc begin (j + 1) ms)

numbers_low : (bs : List Block) → All NumberLow (reports_of bs)
unfolding reports_of
numbers_low [] = tt
numbers_low (b ∷ bs) =
    all_join NumberLow (reports_from b.ssrc b.begin 0 b.metrics) (reports_of bs) (from_low b.ssrc b.begin 0 b.metrics) (numbers_low bs)

reports_alike : (rts : ℕ) (rs : List NumberReport) → All NumberLow rs → (st : Store) (ps : List (Place Entry)) → Reads sent_meaning st ps
    → Reads sent_meaning (with st (all_reported st.places rts st.cells rs)) (note_all rts ps rs)
unfolding all_reported note_all
reports_alike rts [] l st ps R = R
reports_alike rts (r ∷ rs) l st ps R =
    reports_alike rts rs l.1 (with st (reported st.places rts st.cells r)) (note_report rts ps r) (report_alike st ps R rts r l.0)

-- ---- one call, and every list of calls
module _ (st : Store) (ps : List (Place Entry)) (R : Reads sent_meaning st ps) where
  taken_alike : (d : Decoded) → ((taken_as_of d st.places st.cells).answer ≡ (model_taken d ps).answer)
      × Reads sent_meaning (with st (taken_as_of d st.places st.cells).cells) (model_taken d ps).places
  taken_alike (packet p) = (refl, reports_alike p.rts (reports_of p.blocks) (numbers_low p.blocks) st ps R)
  taken_alike (refused e) = (refl, R)

  call_alike : (c : Call) → CallInRange c → (sender_answer st c ≡ model_answer ps c) × Reads sent_meaning (sender_step st c) (model_step ps c)
  call_alike (register ssrc number) r =
      let a = admit_alike sent_meaning shown_lawful st ps R registered_word (entry_of was_registered) (λ n. refl) register_enters
      ssrc number r.1 (Ok tt) Err r.0 in
      rw (shaped_is st.places st.cells R.shape) (ap to_registration a.answer, a.reads)
  call_alike (take_in s) r =
      let t = taken_alike (decode_packet s) in
      rw (shaped_is st.places st.cells R.shape) (ap to_taking_in t.0, t.1)

pub simulates : (cs : List Call) → All CallInRange cs → (st : Store) (ps : List (Place Entry)) → Reads sent_meaning st ps
    → (sender_answers st cs ≡ model_answers ps cs) × Reads sent_meaning (sender_run st cs) (model_run ps cs)
simulates cs r st ps R =
    simulated sender_step sender_answer model_step model_answer (Reads sent_meaning) CallInRange (λ s t h c q. call_alike s t h c q) cs r st ps R

-- ---- the status of a number
module _ (top full : ℕ) (es : List Entry) where
  abbrev within : Bool → Result Status Refusal
  within old = cond old (Err NotRegistered) (answer_of (shown_by es full))

  abbrev unless : Bool → Result Status Refusal
  unless behind = cond behind (within (is_too_old top full)) (Err NotRegistered)

  pub shown_at_lem : full ≤ top → top < full + cells_of_a_place → shown_at top full es ≡ answer_of (shown_by es full)
  unfolding shown_at
  shown_at_lem a b = ap unless (le-leb full top a) ∙ ap within (not_too_old top full b)

  shown_ahead : top < full → shown_at top full es ≡ Err NotRegistered
  unfolding shown_at
  shown_ahead a = ap unless (lt-leb full top a)

  shown_old : full + cells_of_a_place ≤ top → shown_at top full es ≡ Err NotRegistered
  unfolding shown_at
  shown_old a = ap unless (le-leb full top (omega arith)) ∙ ap within (too_old_lem top full a)

module _ (st : Store) (ps : List (Place Entry)) (R : Reads sent_meaning st ps) (ssrc number : ℕ) (low : number < sequence_numbers) where
  status_held : (k top : ℕ) (es : List Entry) → at ps k ≡ stream ssrc top es
      → status_at st.cells k number (distance_of (highest_at st.places k) number) ≡ shown_at top (full_of top number) es
  status_held k top es held =
      let S : Holds sent_meaning st.cells k (place_at st.places k) ssrc top es = rw held at (R.each k) in
      let g = S.begun in
      let high : highest_at st.places k ≡ top % sequence_numbers = held_highest (get_or st.places k 0) ssrc (top % sequence_numbers) S.place in
      elim (dec_lt (distance_of (top % sequence_numbers) number) cells_of_a_place) [
        | yes b ↦
            let full = full_behind top number g low (λ l. omega arith) in
            let slot = same_slot (full_of top number) number (full_low top number g low) in
            rw (
              high,
              status_within st.cells k number (distance_of (top % sequence_numbers) number) b,
              shown_at_lem top (full_of top number) es (omega arith) (omega arith),
              ← slot,
              S.window (full_of top number) (omega arith) (omega arith),
            )
        | no b ↦
            rw (high, status_past st.cells k number (distance_of (top % sequence_numbers) number) (omega arith))
            (elim (dec_le (distance_of number (top % sequence_numbers)) farthest_ahead) [
              | yes d ↦ let full = full_ahead top number g low d in sym (shown_ahead top (full_of top number) es (omega arith))
              | no d ↦
                  let full = full_behind top number g low (λ l. omega arith) in
                  sym (shown_old top (full_of top number) es (omega arith))
            ])
      ]

  pub status_alike : status_asked st.places st.cells ssrc number ≡ model_asked ps ssrc number
  status_alike = rw (shaped_is st.places st.cells R.shape, find_same sent_meaning st ps R ssrc) (by (find_in ps ssrc) refl)
    where
      by : (f : Option ℕ) → find_in ps ssrc ≡ f → asked_at f st.places st.cells number ≡ model_status (found_in f ps) number
      by (Some k) e =
          let n = named_is ssrc (at ps k) (first_true (λ (i : ℕ). names ssrc (at ps i)) (length ps) 0 k e) in
          rw n.1.1 (status_held k n.0 n.1.0 n.1.1)
      by None e = refl
