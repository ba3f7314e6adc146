-- Rules: "What a sender's store means". What is known of a full number, by what happened to it in
-- the order of the calls: no cell, no word.
use Rattle.std.specs.Prelude.{ℕ, Bool, true, false, cond, ◌||◌, ◌≡◌, eqb, Option, Some, None}
use mathlib.Core.List.{List, [], ◌∷◌, ◌++◌, Memᴰ}
use Rattle.metric.specs.declared.Metric.{Metric}
use Rattle.sent_word.specs.Status.{status_of, is_received}
use Rattle.sent_word.specs.declared.Status.{Status}
use Rattle.sent_word.specs.declared.Status.TheVariants.{NotReported, Missing}

-- it was registered, or a packet with that RTS had that metric for it
pub data Event : Type 0 where
  was_registered : Event
  was_reported : Metric → ℕ → Event

-- what happened to a full number
pub record Entry : Type 0 where
  pub full : ℕ
  pub event : Event

abbrev pub entry_of : Event → ℕ → Entry
entry_of event full = record { full = full; event = event }

-- the events of the full number n, in the order of the calls
unfoldable pub events_of : List Entry → ℕ → List Event
events_of [] n = []
events_of (e ∷ es) n = let rest = events_of es n in cond (eqb e.full n) (e.event ∷ rest) rest

-- those behind the first registration
abbrev pub since_first : List Event → List Event
since_first [] = []
since_first (was_registered ∷ es) = es
since_first (was_reported m rts ∷ es) = since_first es

-- what was reported, in its order
abbrev pub statuses_of : List Event → List Status
statuses_of [] = []
statuses_of (was_registered ∷ es) = statuses_of es
statuses_of (was_reported m rts ∷ es) = status_of m rts ∷ statuses_of es

abbrev pub any_received : List Status → Bool
any_received [] = false
any_received (s ∷ ss) = is_received s || any_received ss

-- rule "Status by history": the last "received", else missing if anything was reported, else not
-- reported yet
abbrev pub last_of : List Status → Status
last_of [] = NotReported
last_of (s ∷ ss) = cond (any_received ss) (last_of ss) s

-- what is known by the events of a number: what was reported before its first registration was ignored
abbrev pub shown_of : List Event → Option Status
shown_of [] = None
shown_of (was_registered ∷ es) = Some (last_of (statuses_of es))
shown_of (was_reported m rts ∷ es) = shown_of es

-- what the entries say of the full number n
abbrev pub shown_by : List Entry → ℕ → Option Status
shown_by es n = shown_of (events_of es n)

-- the events of n behind its first registration
abbrev pub since_of : List Entry → ℕ → List Event
since_of es n = since_first (events_of es n)

-- none of these events reports the number received
abbrev pub NoneReceived : List Event → Type 0
NoneReceived es = (m : Metric) (rts : ℕ) → Memᴰ (was_reported m rts) es → is_received (status_of m rts) ≡ false

-- the same as `shown_by`, rule by rule
pub record AsReported (a : Option Status) (es : List Entry) (n : ℕ) : Type 0 where
  -- registered exactly if a registration had the full number
  pub registered_if : Memᴰ (entry_of was_registered n) es → a ≡ None → ⊥
  pub registered_only : (s : Status) → a ≡ Some s → Memᴰ (entry_of was_registered n) es
  -- the last "received" since then
  pub last_received : (s : Status) (m : Metric) (rts : ℕ) (before after : List Event)
      → a ≡ Some s → since_of es n ≡ before ++ (was_reported m rts ∷ after) → is_received (status_of m rts) ≡ true → NoneReceived after
      → s ≡ status_of m rts
  -- else missing, if anything was reported since
  pub missing : (s : Status) (m : Metric) (rts : ℕ) → a ≡ Some s → Memᴰ (was_reported m rts) (since_of es n) → NoneReceived (since_of es n)
      → s ≡ Missing
  -- else not reported yet
  pub unreported : (s : Status) → a ≡ Some s → ((m : Metric) (rts : ℕ) → Memᴰ (was_reported m rts) (since_of es n) → ⊥) → s ≡ NotReported
