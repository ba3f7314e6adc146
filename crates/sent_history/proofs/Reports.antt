-- What a packet makes of a stream: the reports on numbers of its window, behind what it had. Assumes nothing.
use Prim.Native.Nat.{ℕ, ◌≤◌, max}
use mathlib.Core.Path.{◌≡◌, refl, sym, ap, ◌∙◌}
use mathlib.Core.Bool.{Bool, true, false, cond}
use mathlib.Core.List.{List, [], ◌∷◌, ◌++◌, append-nil, append_assoc}
use native.Mathlib.Omega.{arith}
use native.Mathlib.Decide.{dec_le}
use borrow.Author.Tests.{le-leb, lt-leb}
use lib.Dec.{eqb}
use Rattle.lists.proofs.Cases.{never}
use Rattle.metric.specs.Metric.{decode_of}
use Rattle.metric.specs.declared.Metric.{Metric}
use Rattle.reader.specs.Reading.{Decoded, packet, refused}
use Rattle.streams.specs.Full.{full_of, is_too_old}
use Rattle.streams.specs.Model.{Place, free, stream, stream_in}
use Rattle.streams.specs.Alone.{Once, with_one}
use Rattle.sent_block.specs.Reports.{NumberReport, reports_of}
use Rattle.sent_history.specs.Meaning.{Entry, entry_of, was_reported}
use Rattle.sent_history.specs.Model.{model_taken}
use Rattle.sent_history.specs.Stream.{Happened, sent, heard, heard_in, heard_as, stream_after, stream_from, reported_entry, reported_entries, sent_in}
use Rattle.sent_history.proofs.Stream.{taken_seen}

-- ---- a held stream: the same highest full number
module _ (ssrc top : ℕ) where
  pub reported_entry_lem : (es : List Entry) (number : ℕ) (m : Metric) (rts : ℕ)
      → stream_after ssrc (stream ssrc top es) (heard number m rts) ≡ stream ssrc top (es ++ reported_entry top number m rts)
  reported_entry_lem es number m rts =
      elim (dec_le (full_of top number) top) [
        | yes l ↦ rw (le-leb (full_of top number) top l) (picked l (is_too_old top (full_of top number)))
        | no l ↦ rw (lt-leb (full_of top number) top (omega arith)) (ap (stream ssrc top) (sym (append-nil es)))
      ]
    where
      picked : full_of top number ≤ top → (b : Bool)
          → cond b (stream ssrc top es) (with_one (entry_of (was_reported m rts)) ssrc (stream ssrc top es) (full_of top number))
          ≡ stream ssrc top (es ++ cond b [] (entry_of (was_reported m rts) (full_of top number) ∷ []))
      picked l true = ap (stream ssrc top) (sym (append-nil es))
      picked l false = let h : max top (full_of top number) ≡ top = omega arith in rw h

  -- after all that was heard
  pub reported_entries_lem : (hs : List Happened) → sent_in hs ≡ [] → (es : List Entry)
      → stream_from ssrc (stream ssrc top es) hs ≡ stream ssrc top (es ++ reported_entries top hs)
  unfolding stream_from reported_entries
  reported_entries_lem [] e es = ap (stream ssrc top) (sym (append-nil es))
  reported_entries_lem (sent number ∷ hs) e es = never (cc)
  reported_entries_lem (heard number m rts ∷ hs) e es =
      ap (λ (P : Place Entry). stream_from ssrc P hs) (reported_entry_lem es number m rts)
      ∙ reported_entries_lem hs e (es ++ reported_entry top number m rts)
      ∙ ap (stream ssrc top) (append_assoc es (reported_entry top number m rts) (reported_entries top hs))

-- ---- a stream that is not held
reported_free : (ssrc : ℕ) (hs : List Happened) → sent_in hs ≡ [] → stream_from ssrc free hs ≡ free
unfolding stream_from
reported_free ssrc [] e = refl
reported_free ssrc (sent number ∷ hs) e = never (cc)
reported_free ssrc (heard number m rts ∷ hs) e = reported_free ssrc hs e

-- ---- a packet
-- it registers nothing
none_sent_in : (ssrc rts : ℕ) (rs : List NumberReport) → sent_in (heard_in ssrc rts rs) ≡ []
unfolding heard_in
none_sent_in ssrc rts [] = refl
none_sent_in ssrc rts (r ∷ rs) = picked (eqb r.ssrc ssrc) (none_sent_in ssrc rts rs)
  where
    picked : (b : Bool) → sent_in (heard_in ssrc rts rs) ≡ []
        → sent_in (cond b (heard r.number (decode_of r.metric) rts ∷ heard_in ssrc rts rs) (heard_in ssrc rts rs)) ≡ []
    picked true e = e
    picked false e = e

none_sent : (ssrc : ℕ) (d : Decoded) → sent_in (heard_as ssrc d) ≡ []
none_sent ssrc (packet p) = none_sent_in ssrc p.rts (reports_of p.blocks)
none_sent ssrc (refused e) = refl

module _ (ps : List (Place Entry)) (once : Once ps) (ssrc : ℕ) (d : Decoded) where
  -- the stream has the same highest full number, and behind its entries those that the packet reports
  pub packet_reported : (top : ℕ) (es : List Entry) → stream_in ps ssrc ≡ stream ssrc top es
      → stream_in (model_taken d ps).places ssrc ≡ stream ssrc top (es ++ reported_entries top (heard_as ssrc d))
  packet_reported top es held =
      (taken_seen d ps once).each ssrc
      ∙ ap (λ (P : Place Entry). stream_from ssrc P (heard_as ssrc d)) held
      ∙ reported_entries_lem ssrc top (heard_as ssrc d) (none_sent ssrc d) es

  -- and one that is not held stays so
  pub packet_passed_over : stream_in ps ssrc ≡ free → stream_in (model_taken d ps).places ssrc ≡ free
  packet_passed_over none =
      (taken_seen d ps once).each ssrc
      ∙ ap (λ (P : Place Entry). stream_from ssrc P (heard_as ssrc d)) none
      ∙ reported_free ssrc (heard_as ssrc d) (none_sent ssrc d)
