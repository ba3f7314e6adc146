-- What is known of a full number, sentence by sentence. Assumes nothing.
use Prim.Native.Nat.{ℕ}
use mathlib.Core.Path.{◌≡◌, refl, sym, ap, ◌∙◌}
use mathlib.Core.Bool.{Bool, true, false, cond, ◌||◌}
use mathlib.Core.List.Memᴰ
use mathlib.Core.List.{List, [], ◌∷◌, ◌++◌, Memᴰ}
use mathlib.Core.Logic.{⊎_elim}
use borrow.Author.Tests.{eqb-true, eq-eqb}
use lib.Dec.{eqb}
use Rattle.lists.proofs.Cases.{never}
use Rattle.metric.specs.declared.Metric.{Metric}
use Rattle.sent_word.specs.Status.{status_of, is_received}
use Rattle.sent_word.specs.declared.Status.{Status}
use Rattle.std.specs.Prelude.{Option, Some, None}
use Rattle.sent_history.specs.Meaning.{Event, was_registered, was_reported, Entry, entry_of, events_of, shown_of, shown_by}
use Rattle.sent_history.specs.Meaning.{since_first, statuses_of, any_received, last_of, since_of, NoneReceived, AsReported}
use Rattle.sent_history.proofs.Events.{said}
use Rattle.sent_word.specs.declared.Status.TheVariants.{NotReported, Missing}

-- ---- the events of n are those of its entries
events_have : (es : List Entry) (event : Event) (n : ℕ) → Memᴰ (entry_of event n) es → Memᴰ event (events_of es n)
unfolding events_of
events_have [] event n m = absurd (Memᴰ.not-nil m)
events_have (x ∷ es) event n m = ⊎_elim (λ h. here h) (λ h. there (eqb x.full n) (events_have es event n h)) (Memᴰ.cases_cons m)
  where
    here : entry_of event n ≡ x → Memᴰ event (cond (eqb x.full n) (x.event ∷ events_of es n) (events_of es n))
    here h = rw (eq-eqb x.full n (ap (λ (e : Entry). e.full) (sym h))) (Memᴰ.head (ap (λ (e : Entry). e.event) h))

    there : (b : Bool) → Memᴰ event (events_of es n) → Memᴰ event (cond b (x.event ∷ events_of es n) (events_of es n))
    there true h = Memᴰ.tail h
    there false h = h

events_are : (es : List Entry) (event : Event) (n : ℕ) → Memᴰ event (events_of es n) → Memᴰ (entry_of event n) es
unfolding events_of
events_are [] event n m = absurd (Memᴰ.not-nil m)
events_are (x ∷ es) event n m = picked (eqb x.full n) refl m (λ h. Memᴰ.tail (events_are es event n h))
  where
    picked : (b : Bool) → eqb x.full n ≡ b → Memᴰ event (cond b (x.event ∷ events_of es n) (events_of es n))
        → (Memᴰ event (events_of es n) → Memᴰ (entry_of event n) (x ∷ es)) → Memᴰ (entry_of event n) (x ∷ es)
    picked true e m rest =
        ⊎_elim (λ h. Memᴰ.head (same h (eqb-true x.full n e))) (λ h. rest h) (Memᴰ.cases_cons m)
      where
        same : event ≡ x.event → x.full ≡ n → entry_of event n ≡ x
        same h q = rw (h, ← q)
    picked false e m rest = rest m

-- ---- registered, by the events
some_registered : (es : List Event) (s : Status) → shown_of es ≡ Some s → Memᴰ was_registered es
some_registered [] s h = never (cc)
some_registered (was_registered ∷ es) s h = Memᴰ.head refl
some_registered (was_reported m rts ∷ es) s h = Memᴰ.tail (some_registered es s h)

none_registered : (es : List Event) → shown_of es ≡ None → Memᴰ was_registered es → ⊥
none_registered [] h m = Memᴰ.not-nil m
none_registered (was_registered ∷ es) h m = never (cc)
none_registered (was_reported x rts ∷ es) h m =
    ⊎_elim {C = ⊥} (λ q. never (cc)) (λ q. none_registered es h q) (Memᴰ.cases_cons m)

since_registered : (es : List Event) (s : Status) → shown_of es ≡ Some s → s ≡ last_of (statuses_of (since_first es))
since_registered [] s h = never (cc)
since_registered (was_registered ∷ es) s h = cc
since_registered (was_reported m rts ∷ es) s h = since_registered es s h

-- ---- the last of the reports
less : (e : Event) (es : List Event) → NoneReceived (e ∷ es) → NoneReceived es
less e es h m rts q = h m rts (Memᴰ.tail q)

any_none : (es : List Event) → NoneReceived es → any_received (statuses_of es) ≡ false
any_none [] h = refl
any_none (was_registered ∷ es) h = any_none es (less was_registered es h)
any_none (was_reported m rts ∷ es) h = rw (h m rts (Memᴰ.head refl)) (any_none es (less (was_reported m rts) es h))

any_some : (before : List Event) (m : Metric) (rts : ℕ) (after : List Event) → is_received (status_of m rts) ≡ true
    → any_received (statuses_of (before ++ (was_reported m rts ∷ after))) ≡ true
any_some [] m rts after e = rw e
any_some (was_registered ∷ es) m rts after e = any_some es m rts after e
any_some (was_reported x r ∷ es) m rts after e = rw (any_some es m rts after e) (picked (is_received (status_of x r)))
  where
    picked : (b : Bool) → (b || true) ≡ true
    picked true = refl
    picked false = refl

last_received : (before : List Event) (m : Metric) (rts : ℕ) (after : List Event) → is_received (status_of m rts) ≡ true → NoneReceived after
    → last_of (statuses_of (before ++ (was_reported m rts ∷ after))) ≡ status_of m rts
last_received [] m rts after e h = rw (any_none after h)
last_received (was_registered ∷ es) m rts after e h = last_received es m rts after e h
last_received (was_reported x r ∷ es) m rts after e h = rw (any_some es m rts after e) (last_received es m rts after e h)

last_missing : (es : List Event) (m : Metric) (rts : ℕ) → Memᴰ (was_reported m rts) es → NoneReceived es → last_of (statuses_of es) ≡ Missing
last_missing [] m rts q h = absurd (Memᴰ.not-nil q)
last_missing (was_registered ∷ es) m rts q h =
    ⊎_elim (λ z. never (cc)) (λ z. last_missing es m rts z (less was_registered es h)) (Memᴰ.cases_cons q)
last_missing (was_reported x r ∷ es) m rts q h =
    rw (any_none es (less (was_reported x r) es h)) (said x r (h x r (Memᴰ.head refl)))

last_none : (es : List Event) → ((m : Metric) (rts : ℕ) → Memᴰ (was_reported m rts) es → ⊥) → last_of (statuses_of es) ≡ NotReported
last_none [] h = refl
last_none (was_registered ∷ es) h = last_none es (λ m rts q. h m rts (Memᴰ.tail q))
last_none (was_reported m rts ∷ es) h = absurd (h m rts (Memᴰ.head refl))

pub as_reported : (es : List Entry) (n : ℕ) → AsReported (shown_by es n) es n
as_reported es n = record {
  registered_if = λ m h. none_registered (events_of es n) h (events_have es was_registered n m);
  registered_only = λ s h. events_are es was_registered n (some_registered (events_of es n) s h);
  last_received = λ s m rts before after h e r none.
      since_registered (events_of es n) s h ∙ ap (λ (l : List Event). last_of (statuses_of l)) e ∙ last_received before m rts after r none;
  missing = λ s m rts h q none. since_registered (events_of es n) s h ∙ last_missing (since_of es n) m rts q none;
  unreported = λ s h none. since_registered (events_of es n) s h ∙ last_none (since_of es n) none;
}

-- ---- the sentences leave nothing open: what they hold of is what the entries say
-- events with a last "received", with reports but no "received", or without a report
data Cases (es : List Event) : Type 0 where
  lastly : (before : List Event) (m : Metric) (rts : ℕ) (after : List Event) → es ≡ before ++ (was_reported m rts ∷ after)
      → is_received (status_of m rts) ≡ true → NoneReceived after → Cases es
  never_received : (m : Metric) (rts : ℕ) → Memᴰ (was_reported m rts) es → NoneReceived es → Cases es
  silent : ((m : Metric) (rts : ℕ) → Memᴰ (was_reported m rts) es → ⊥) → Cases es

no_reports : (es : List Event) → ((m : Metric) (rts : ℕ) → Memᴰ (was_reported m rts) es → ⊥) → NoneReceived es
no_reports es h m rts q = absurd (h m rts q)

-- one more at the front
cases_registered : (es : List Event) → Cases es → Cases (was_registered ∷ es)
cases_registered es (lastly before m rts after e r none) = lastly (was_registered ∷ before) m rts after (rw e) r none
cases_registered es (never_received m rts q none) =
    never_received m rts (Memᴰ.tail q) (λ x r z. ⊎_elim (λ w. never (cc)) (λ w. none x r w) (Memᴰ.cases_cons z))
cases_registered es (silent h) = silent (λ m rts z. ⊎_elim {C = ⊥} (λ w. never (cc)) (λ w. h m rts w) (Memᴰ.cases_cons z))

first_report : (m : Metric) (rts : ℕ) (es : List Event) → NoneReceived es → (b : Bool) → is_received (status_of m rts) ≡ b → Cases (was_reported m rts ∷ es)
first_report m rts es none true e = lastly [] m rts es refl e none
first_report m rts es none false e =
    never_received m rts (Memᴰ.head refl)
    (λ x r z. ⊎_elim (λ w. same x r w) (λ w. none x r w) (Memᴰ.cases_cons z))
  where
    same : (x : Metric) (r : ℕ) → was_reported x r ≡ was_reported m rts → is_received (status_of x r) ≡ false
    same x r w =
        let a : x ≡ m = cc in
        let b : r ≡ rts = cc in
        rw (a, b) e

cases_reported : (m : Metric) (rts : ℕ) (es : List Event) → Cases es → Cases (was_reported m rts ∷ es)
cases_reported m rts es (lastly before x r after e z none) = lastly (was_reported m rts ∷ before) x r after (rw e) z none
cases_reported m rts es (never_received x r q none) = first_report m rts es none (is_received (status_of m rts)) refl
cases_reported m rts es (silent h) = first_report m rts es (no_reports es h) (is_received (status_of m rts)) refl

cases_of : (es : List Event) → Cases es
cases_of [] = silent (λ m rts q. Memᴰ.not-nil q)
cases_of (was_registered ∷ es) = cases_registered es (cases_of es)
cases_of (was_reported m rts ∷ es) = cases_reported m rts es (cases_of es)

-- two that are as reported are the same
module _ (es : List Entry) (n : ℕ) (a b : Option Status) (A : AsReported a es n) (B : AsReported b es n) where
  same_status : (s t : Status) → a ≡ Some s → b ≡ Some t → Cases (since_of es n) → s ≡ t
  same_status s t p q (lastly before m rts after e r none) =
      A.last_received s m rts before after p e r none ∙ sym (B.last_received t m rts before after q e r none)
  same_status s t p q (never_received m rts z none) = A.missing s m rts p z none ∙ sym (B.missing t m rts q z none)
  same_status s t p q (silent h) = A.unreported s p h ∙ sym (B.unreported t q h)

  pub as_reported_once : a ≡ b
  as_reported_once = by a b refl refl
    where
      by : (x y : Option Status) → a ≡ x → b ≡ y → x ≡ y
      by None None p q = refl
      by None (Some t) p q = absurd (A.registered_if (B.registered_only t q) p)
      by (Some s) None p q = absurd (B.registered_if (A.registered_only s p) q)
      by (Some s) (Some t) p q = ap Some (same_status s t p q (cases_of (since_of es n)))
