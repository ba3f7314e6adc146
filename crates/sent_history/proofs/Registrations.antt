-- What is registered of a stream, and its highest, go by its accepted registrations alone. Assumes nothing.
use Prim.Native.Nat.{ℕ, max}
use mathlib.Core.Path.{◌≡◌, refl, sym, ap, ◌∙◌}
use mathlib.Core.Bool.{Bool, true, false, cond}
use mathlib.Core.List.{List, [], ◌∷◌, ◌++◌, append-nil, append_assoc}
use mathlib.Core.List.Memᴰ
use mathlib.Core.List.{Memᴰ}
use mathlib.Core.Logic.{⊎_elim}
use native.Mathlib.Omega.{arith}
use lib.Dec.{leb}
use Rattle.lists.proofs.Cases.{never}
use Rattle.metric.specs.declared.Metric.{Metric}
use Rattle.streams.specs.Full.{full_of, first_full, is_too_old, fulls_from, top_from}
use Rattle.streams.specs.Model.{Place, free, stream, highest_in, entries_in}
use Rattle.sent_history.specs.Meaning.{Entry, Event, entry_of, was_registered, was_reported}
use Rattle.sent_history.specs.Stream.{Happened, sent, heard, stream_from, stream_by, reported_entry}
use Rattle.sent_history.specs.Stream.{sent_in, with_full, registered_in, ByRegistrations}
use Rattle.sent_history.proofs.Reports.{reported_entry_lem}

-- one more entry
registered_last : (es : List Entry) (e : Entry) → registered_in (es ++ (e ∷ [])) ≡ registered_in es ++ with_full e.event e.full []
unfolding registered_in
registered_last [] e = refl
registered_last (x ∷ es) e = ap (λ (l : List ℕ). with_full x.event x.full l) (registered_last es e) ∙ picked x.event
  where
    picked : (v : Event) → with_full v x.full (registered_in es ++ with_full e.event e.full [])
        ≡ with_full v x.full (registered_in es) ++ with_full e.event e.full []
    picked was_registered = refl
    picked (was_reported m rts) = refl

-- a held stream after more of its history
record Grown (P : Place Entry) (top : ℕ) (es : List Entry) (numbers : List ℕ) : Type 0 where
  pub held : P ≡ free → ⊥
  pub highest : highest_in P ≡ top_from top numbers
  pub entered : registered_in (entries_in P) ≡ registered_in es ++ fulls_from top numbers

-- a report registers nothing
registered_same : (es : List Entry) (top number : ℕ) (m : Metric) (rts : ℕ) → registered_in (es ++ reported_entry top number m rts) ≡ registered_in es
registered_same es top number m rts = picked (leb (full_of top number) top) (is_too_old top (full_of top number))
  where
    picked : (a b : Bool) → registered_in (es ++ cond a (cond b [] (entry_of (was_reported m rts) (full_of top number) ∷ [])) []) ≡ registered_in es
    picked true true = ap registered_in (append-nil es)
    picked true false = registered_last es (entry_of (was_reported m rts) (full_of top number)) ∙ append-nil (registered_in es)
    picked false b = ap registered_in (append-nil es)

module _ (ssrc : ℕ) where
  grown : (hs : List Happened) (top : ℕ) (es : List Entry) → Grown (stream_from ssrc (stream ssrc top es) hs) top es (sent_in hs)
  unfolding stream_from top_from fulls_from
  grown [] top es = record { held = λ e. never (cc); highest = refl; entered = sym (append-nil (registered_in es)) }
  grown (sent number ∷ hs) top es =
      let full = full_of top number in
      let g = grown hs (max top full) (es ++ (entry_of was_registered full ∷ [])) in
      record {
        held = g.held;
        highest = g.highest;
        entered =
            g.entered
            ∙ ap (λ (l : List ℕ). l ++ fulls_from (max top full) (sent_in hs)) (registered_last es (entry_of was_registered full))
            ∙ append_assoc (registered_in es) (full ∷ []) (fulls_from (max top full) (sent_in hs));
      }
  grown (heard number m rts ∷ hs) top es =
      let g = grown hs top (es ++ reported_entry top number m rts) in
      rw (reported_entry_lem ssrc top es number m rts)
      (record {
        held = g.held;
        highest = g.highest;
        entered = g.entered ∙ ap (λ (l : List ℕ). l ++ fulls_from top (sent_in hs)) (registered_same es top number m rts);
      })

  pub by_registrations : (hs : List Happened) → ByRegistrations (stream_by ssrc hs) (sent_in hs)
  unfolding stream_from registered_in
  by_registrations [] = record { none = λ e. refl; some = λ e. refl; highest = refl; entered = refl }
  by_registrations (sent number ∷ hs) =
      let first : max 0 (first_full number) ≡ first_full number = omega arith in
      let g = grown hs (first_full number) (entry_of was_registered (first_full number) ∷ []) in
      rw first (record { none = λ e. never (cc); some = λ e. absurd (g.held e); highest = g.highest; entered = g.entered })
  by_registrations (heard number m rts ∷ hs) = by_registrations hs

-- ---- a full number is that of a registration exactly if its entry is there
pub registered_have : (es : List Entry) (n : ℕ) → Memᴰ (entry_of was_registered n) es → Memᴰ n (registered_in es)
unfolding registered_in
registered_have [] n m = absurd (Memᴰ.not-nil m)
registered_have (e ∷ es) n m = ⊎_elim here (λ h. there e.event (registered_have es n h)) (Memᴰ.cases_cons m)
  where
    here : entry_of was_registered n ≡ e → Memᴰ n (with_full e.event e.full (registered_in es))
    here h = rw (← h) (Memᴰ.head refl)

    there : (v : Event) → Memᴰ n (registered_in es) → Memᴰ n (with_full v e.full (registered_in es))
    there was_registered h = Memᴰ.tail h
    there (was_reported x rts) h = h

pub registered_are : (es : List Entry) (n : ℕ) → Memᴰ n (registered_in es) → Memᴰ (entry_of was_registered n) es
unfolding registered_in
registered_are [] n m = absurd (Memᴰ.not-nil m)
registered_are (e ∷ es) n m = picked e.event refl m (λ h. Memᴰ.tail (registered_are es n h))
  where
    same : e.event ≡ was_registered → n ≡ e.full → entry_of was_registered n ≡ e
    same v q = rw (q, ← v)

    picked : (v : Event) → e.event ≡ v → Memᴰ n (with_full v e.full (registered_in es))
        → (Memᴰ n (registered_in es) → Memᴰ (entry_of was_registered n) (e ∷ es)) → Memᴰ (entry_of was_registered n) (e ∷ es)
    picked was_registered v h rest = ⊎_elim (λ q. Memᴰ.head (same v q)) rest (Memᴰ.cases_cons h)
    picked (was_reported x rts) v h rest = rest h
