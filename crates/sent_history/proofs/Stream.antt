-- What the machine holds of each stream is what the stream's own history makes of it. Assumes nothing.
use Prim.Native.Nat.{ℕ}
use mathlib.Core.Path.{◌≡◌, refl, sym, ap, ◌∙◌}
use mathlib.Core.Bool.{Bool, true, false, cond}
use mathlib.Core.List.{List, [], ◌∷◌, ◌++◌}
use native.Mathlib.Decide.{ℕ_discrete}
use borrow.Author.Tests.{eq-eqb, ne_eqb}
use lib.Dec.{eqb}
use Rattle.metric.specs.Metric.{decode_of}
use Rattle.reader.specs.Reading.{Decoded, packet, refused, decode_packet}
use Rattle.streams.specs.Model.{Place, ModelAfter, stream_in}
use Rattle.streams.specs.Alone.{Once, Only, Admitted, entered, kept}
use Rattle.streams.proofs.Alone.{admitted_as, noted_only}
use Rattle.std.specs.Prelude.{Result, Ok, Err}
use Rattle.refusal.specs.declared.Refusal.{Refusal}
use Rattle.sent_block.specs.Reports.{NumberReport, reports_of}
use Rattle.sent_history.specs.Calls.{Call, register, take_in, to_registration}
use Rattle.sent_history.specs.Meaning.{Entry, entry_of, was_registered, was_reported}
use Rattle.sent_history.specs.Model.{model_registered, note_report, note_all, model_taken, model_step, model_answer, model_run, model_answers}
use Rattle.sent_history.specs.Stream.{Happened, sent, heard, heard_in, heard_as, happened_by, history_of, stream_after, stream_from}

from_join : (ssrc : ℕ) (hs js : List Happened) (P : Place Entry) → stream_from ssrc P (hs ++ js) ≡ stream_from ssrc (stream_from ssrc P hs) js
unfolding stream_from
from_join ssrc [] js P = refl
from_join ssrc (h ∷ hs) js P = from_join ssrc hs js (stream_after ssrc P h)

-- ---- from the places ps to ps': still no SSRC in two places, and each stream is what happened to it made of it
pub record Seen (ps ps' : List (Place Entry)) (happened : ℕ → List Happened) : Type 0 where
  pub once : Once ps'
  pub each : (ssrc : ℕ) → stream_in ps' ssrc ≡ stream_from ssrc (stream_in ps ssrc) (happened ssrc)

then_seen : (ps ps' ps'' : List (Place Entry)) (f g : ℕ → List Happened) → Seen ps ps' f → Seen ps' ps'' g → Seen ps ps'' (λ (y : ℕ). f y ++ g y)
then_seen ps ps' ps'' f g F G = record {
  once = G.once;
  each = λ y. G.each y ∙ ap (λ (P : Place Entry). stream_from y P (g y)) (F.each y) ∙ sym (from_join y (f y) (g y) (stream_in ps y));
}

-- to the stream x alone, if at all
module _ (ps : List (Place Entry)) (once : Once ps) where
  none_seen : Seen ps ps (λ (y : ℕ). [])
  unfolding stream_from
  none_seen = record { once = once; each = λ y. refl }

  one_seen : (x : ℕ) (h : Happened) (ps' : List (Place Entry)) → Only ps x ps' (stream_after x (stream_in ps x) h)
      → Seen ps ps' (λ (y : ℕ). cond (eqb x y) (h ∷ []) [])
  unfolding stream_from
  one_seen x h ps' only = record {
    once = only.once;
    each = λ y.
        elim (ℕ_discrete x y) [
          | yes e ↦ rw (eq-eqb x y e, ← e) only.own
          | no e ↦ rw (ne_eqb x y e) (only.others y (λ q. e (sym q)))
        ];
  }

-- ---- reports
report_seen : (rts : ℕ) (r : NumberReport) (ps : List (Place Entry)) → Once ps
    → Seen ps (note_report rts ps r) (λ (y : ℕ). cond (eqb r.ssrc y) (heard r.number (decode_of r.metric) rts ∷ []) [])
report_seen rts r ps once =
    one_seen ps once r.ssrc (heard r.number (decode_of r.metric) rts) (note_report rts ps r)
    (noted_only (entry_of (was_reported (decode_of r.metric) rts)) ps once r.ssrc r.number)

reports_seen : (rts : ℕ) (rs : List NumberReport) (ps : List (Place Entry)) → Once ps → Seen ps (note_all rts ps rs) (λ (y : ℕ). heard_in y rts rs)
unfolding note_all heard_in
reports_seen rts [] ps once = none_seen ps once
reports_seen rts (r ∷ rs) ps once =
    let first = report_seen rts r ps once in
    let rest = reports_seen rts rs (note_report rts ps r) first.once in
    let all = then_seen ps (note_report rts ps r) (note_all rts (note_report rts ps r) rs)
    (λ (y : ℕ). cond (eqb r.ssrc y) (heard r.number (decode_of r.metric) rts ∷ []) []) (λ (y : ℕ). heard_in y rts rs) first rest in
    record {
      once = all.once;
      each = λ y. all.each y ∙ ap (stream_from y (stream_in ps y)) (picked (eqb r.ssrc y) (heard r.number (decode_of r.metric) rts) (heard_in y rts rs));
    }
  where
    picked : (b : Bool) (h : Happened) (hs : List Happened) → cond b (h ∷ []) [] ++ hs ≡ cond b (h ∷ hs) hs
    picked true h hs = refl
    picked false h hs = refl

pub taken_seen : (d : Decoded) (ps : List (Place Entry)) → Once ps → Seen ps (model_taken d ps).places (λ (y : ℕ). heard_as y d)
taken_seen (packet p) ps once = reports_seen p.rts (reports_of p.blocks) ps once
taken_seen (refused e) ps once = none_seen ps once

-- ---- a registration
module _ (ps : List (Place Entry)) (once : Once ps) (x number : ℕ) where
  -- an accepted one is one that happened to x, and a refused one did not happen
  registered_seen : (o : ModelAfter Entry (Result (Unit {0}) Refusal)) → Admitted (entry_of was_registered) (Ok tt) Err ps x number o
      → Seen ps o.places (λ (y : ℕ). happened_by y (register x number) (to_registration o.answer))
  registered_seen o (entered ps' only) = one_seen ps once x (sent number) ps' only
  registered_seen o (kept e) = none_seen ps once

-- ---- every list of calls
call_seen : (c : Call) (ps : List (Place Entry)) → Once ps → Seen ps (model_step ps c) (λ (y : ℕ). happened_by y c (model_answer ps c))
call_seen (register x number) ps once =
    registered_seen ps once x number (model_registered ps x number) (admitted_as (entry_of was_registered) ps once x number (Ok tt) Err)
call_seen (take_in s) ps once = taken_seen (decode_packet s) ps once

pub run_seen : (cs : List Call) (ps : List (Place Entry)) → Once ps → Seen ps (model_run ps cs) (λ (y : ℕ). history_of y cs (model_answers ps cs))
run_seen [] ps once = none_seen ps once
run_seen (c ∷ cs) ps once =
    let first = call_seen c ps once in
    then_seen ps (model_step ps c) (model_run (model_step ps c) cs) (λ (y : ℕ). happened_by y c (model_answer ps c))
    (λ (y : ℕ). history_of y cs (model_answers (model_step ps c) cs)) first (run_seen cs (model_step ps c) first.once)
