-- What one more entry makes of what is known of a full number. Assumes nothing.
use Prim.Native.Nat.{ℕ}
use mathlib.Core.Path.{◌≡◌, refl, sym, ◌∙◌}
use mathlib.Core.Bool.{Bool, true, false, cond, ◌||◌, true≢false}
use mathlib.Core.List.{List, [], ◌∷◌, ◌++◌, append-nil}
use borrow.Author.Tests.{eq-eqb, ne_eqb}
use lib.Dec.{eqb}
use Rattle.lists.specs.All.{All}
use Rattle.metric.specs.declared.Metric.{Metric}
use Rattle.sent_word.specs.Status.{status_of, is_received, after_registering, reported_over, after_report}
use Rattle.sent_word.specs.declared.Status.{Status}
use Rattle.sent_word.proofs.Words.{received_replaces}
use Rattle.sent_history.specs.Meaning.{Event, was_registered, was_reported, Entry, events_of, statuses_of, any_received, last_of, shown_of}
use Rattle.metric.specs.declared.Metric.TheVariants as metric
use Rattle.sent_word.specs.declared.Status.TheVariants.{NotReported, Missing}

-- ---- the events of a full number
events_last : (es : List Entry) (e : Entry) (n : ℕ) → events_of (es ++ (e ∷ [])) n ≡ events_of es n ++ cond (eqb e.full n) (e.event ∷ []) []
unfolding events_of
events_last [] e n = refl
events_last (x ∷ es) e n = rw (events_last es e n) (picked (eqb x.full n) (events_of es n) (cond (eqb e.full n) (e.event ∷ []) []))
  where
    picked : (b : Bool) (vs ws : List Event) → cond b (x.event ∷ (vs ++ ws)) (vs ++ ws) ≡ cond b (x.event ∷ vs) vs ++ ws
    picked true vs ws = refl
    picked false vs ws = refl

module _ (es : List Entry) (e : Entry) (n : ℕ) where
  pub events_same : e.full ≡ n → events_of (es ++ (e ∷ [])) n ≡ events_of es n ++ (e.event ∷ [])
  events_same q = rw (events_last es e n, eq-eqb e.full n q)

  pub events_other : (e.full ≡ n → ⊥) → events_of (es ++ (e ∷ [])) n ≡ events_of es n
  events_other q = rw (events_last es e n, ne_eqb e.full n q) (append-nil (events_of es n))

pub events_none : (es : List Entry) (n : ℕ) → All (λ (e : Entry). e.full ≡ n → ⊥) es → events_of es n ≡ []
unfolding events_of
events_none [] n h = refl
events_none (e ∷ es) n h = rw (ne_eqb e.full n h.0) (events_none es n h.1)

-- ---- what was reported is "missing" or a "received"
abbrev pub Said : Status → Type 0
Said s = is_received s ≡ false → s ≡ Missing

pub said : (m : Metric) (rts : ℕ) → Said (status_of m rts)
said metric.NotReceived rts e = refl
said (metric.Received mark offset) rts e = absurd (true≢false e)
said (metric.OverRange mark) rts e = absurd (true≢false e)
said (metric.NoTime mark) rts e = absurd (true≢false e)

all_said : (es : List Event) → All Said (statuses_of es)
all_said [] = tt
all_said (was_registered ∷ es) = all_said es
all_said (was_reported m rts ∷ es) = (said m rts, all_said es)

-- ---- one more report
any_last : (ss : List Status) (s : Status) → any_received (ss ++ (s ∷ [])) ≡ (any_received ss || is_received s)
any_last [] s = picked (is_received s)
  where
    picked : (b : Bool) → (b || false) ≡ b
    picked true = refl
    picked false = refl
any_last (t ∷ ss) s = rw (any_last ss s) (picked (is_received t))
  where
    picked : (b : Bool) → (b || (any_received ss || is_received s)) ≡ ((b || any_received ss) || is_received s)
    picked true = refl
    picked false = refl

over_none : (s : Status) → reported_over NotReported s ≡ s
unfolding reported_over
over_none s = picked (is_received s)
  where
    picked : (b : Bool) → cond b s s ≡ s
    picked true = refl
    picked false = refl

-- "missing" over "missing", and over "received"
over_missing : (held s : Status) → Said held → Said s → is_received s ≡ false → reported_over held s ≡ held
unfolding reported_over
over_missing held s a b e = rw e (picked (is_received held) refl)
  where
    picked : (r : Bool) → is_received held ≡ r → cond r held s ≡ held
    picked true h = refl
    picked false h = b e ∙ sym (a h)

last_last : (ss : List Status) (s : Status) → All Said ss → Said s → last_of (ss ++ (s ∷ [])) ≡ reported_over (last_of ss) s
last_last [] s a b = sym (over_none s)
last_last (t ∷ ss) s a b =
    rw (any_last ss s, last_last ss s a.1 b) (picked (any_received ss) (is_received s) refl)
  where
    picked : (x r : Bool) → is_received s ≡ r → cond (x || r) (reported_over (last_of ss) s) t ≡ reported_over (cond x (last_of ss) t) s
    picked true r e = refl
    picked false true e = received_replaces (last_of ss) s e ∙ sym (received_replaces t s e)
    picked false false e = sym (over_missing t s a.0 b e)

-- ---- one more event
statuses_registered : (es : List Event) → statuses_of (es ++ (was_registered ∷ [])) ≡ statuses_of es
statuses_registered [] = refl
statuses_registered (was_registered ∷ es) = statuses_registered es
statuses_registered (was_reported m rts ∷ es) = rw (statuses_registered es)

statuses_reported : (es : List Event) (m : Metric) (rts : ℕ) → statuses_of (es ++ (was_reported m rts ∷ [])) ≡ statuses_of es ++ (status_of m rts ∷ [])
statuses_reported [] m rts = refl
statuses_reported (was_registered ∷ es) m rts = statuses_reported es m rts
statuses_reported (was_reported x r ∷ es) m rts = rw (statuses_reported es m rts)

pub shown_registered : (es : List Event) → shown_of (es ++ (was_registered ∷ [])) ≡ after_registering (shown_of es)
shown_registered [] = refl
shown_registered (was_registered ∷ es) = rw (statuses_registered es)
shown_registered (was_reported m rts ∷ es) = shown_registered es

pub shown_reported : (es : List Event) (m : Metric) (rts : ℕ) → shown_of (es ++ (was_reported m rts ∷ [])) ≡ after_report (shown_of es) (status_of m rts)
shown_reported [] m rts = refl
shown_reported (was_registered ∷ es) m rts =
    rw (statuses_reported es m rts, last_last (statuses_of es) (status_of m rts) (all_said es) (said m rts))
shown_reported (was_reported x r ∷ es) m rts = shown_reported es m rts
