-- The theorems by history, over every list of calls to a fresh sender's store. Assumes nothing.
use Prim.Native.Nat.{ℕ, ◌+◌, ◌%◌, ◌<◌, ◌≤◌}
use mathlib.Core.Path.{◌≡◌, refl, sym, ap, ◌∙◌}
use mathlib.Core.Bool.{true}
use mathlib.Core.List.{List, [], Memᴰ}
use native.Mathlib.Omega.{arith}
use borrow.Author.Tests.{eq-eqb}
use lib.ListN.{length}
use Rattle.lists.specs.All.{All}
use Rattle.std.specs.Prelude.{Option, Some, None, Ok, Err}
use Rattle.lists.proofs.Cases.{never}
use Rattle.lists.proofs.First.{first_true}
use Rattle.ring.specs.Ring.{cells_of_a_place}
use Rattle.window.specs.Number.{sequence_numbers}
use Rattle.places.specs.Place.{place_at, is_stream, find_of}
use Rattle.places.specs.Held.{HeldAt}
use Rattle.places.proofs.Held.{found_held, held_found, lost_unheld, unheld_lost}
use Rattle.place_window.specs.Window.{cell_at}
use Rattle.streams.specs.Full.{full_of, fulls_of, top_of}
use Rattle.streams.specs.Model.{Place, stream, names, at, find_in, found_in, stream_in, highest_in, entries_in, vacant}
use Rattle.streams.specs.Reading.{Store, Fresh, Holds, Reads}
use Rattle.streams.proofs.Numbers.{full_behind}
use Rattle.streams.proofs.Places.{named_is, named, find_same}
use Rattle.streams.proofs.Fresh.{fresh_reads}
use Rattle.streams.proofs.Alone.{vacant_once, vacant_stream}
use Rattle.sent_word.specs.Word.{read_word_of}
use Rattle.sent_word.specs.declared.Status.{Status}
use Rattle.sent_status.specs.Status.{answer_of, status_asked}
use Rattle.sent_history.specs.Calls.{Call, CallAnswer, sender_run, sender_answers, CallInRange}
use Rattle.sent_history.specs.Meaning.{Entry, shown_by, AsReported}
use Rattle.sent_history.specs.Model.{model_run, model_answers, model_status, model_asked}
use Rattle.sent_history.specs.Reading.{sent_meaning}
use Rattle.sent_history.specs.Stream.{Happened, history_of, stream_from, stream_by, sent_in}
use Rattle.sent_history.specs.Alone.{SameStream}
use Rattle.sent_history.proofs.Sentences.{as_reported, as_reported_once}
use Rattle.sent_history.proofs.Stream.{run_seen}
use Rattle.sent_history.proofs.Registrations.{by_registrations, registered_have, registered_are}
use Rattle.sent_history.proofs.Simulation.{simulates, status_alike, shown_at_lem}
use Rattle.refusal.specs.declared.Refusal.TheVariants.{NotRegistered}

-- each number of a window has its full number back, and its status by it
full_of_window : (top n : ℕ) → sequence_numbers ≤ top → n ≤ top → top < n + cells_of_a_place → full_of top (n % sequence_numbers) ≡ n
full_of_window top n g a b =
    let f = full_behind top (n % sequence_numbers) g (omega arith) (λ l. omega arith) in
    omega arith

window_status : (x top n : ℕ) (es : List Entry) → sequence_numbers ≤ top → n ≤ top → top < n + cells_of_a_place
    → model_status (stream x top es) (n % sequence_numbers) ≡ answer_of (shown_by es n)
window_status x top n es g a b = rw (full_of_window top n g a b) (shown_at_lem top n es a b)

module _ (st : Store) (new : Fresh st) (cs : List Call) (range : All CallInRange cs) where
  abbrev start : List (Place Entry)
  start = vacant (length st.places)

  abbrev model : List (Place Entry)
  model = model_run start cs

  abbrev after : Store
  after = sender_run st cs

  -- the store answers each call as the machine does
  pub same_answers : sender_answers st cs ≡ model_answers start cs
  same_answers = (simulates cs range st start (fresh_reads sent_meaning st new)).0

  -- and reads as the machine says, place by place and cell by cell
  pub same_reading : Reads sent_meaning after model
  same_reading = (simulates cs range st start (fresh_reads sent_meaning st new)).1

  -- and says the same of each number
  pub same_status : (ssrc number : ℕ) → number < sequence_numbers → status_asked after.places after.cells ssrc number ≡ model_asked model ssrc number
  same_status ssrc number low = status_alike after model same_reading ssrc number low

  -- no SSRC in two places
  pub no_ssrc_twice : (ssrc p q h g : ℕ) → place_at after.places p ≡ Some (record { ssrc = ssrc; highest = h }) → place_at after.places q ≡ Some (record { ssrc = ssrc; highest = g }) → p ≡ q
  no_ssrc_twice ssrc p q h g a b = (run_seen cs start (vacant_once Entry (length st.places))).once ssrc p q (test p h a) (test q g b)
    where
      test : (k h : ℕ) → place_at after.places k ≡ Some (record { ssrc = ssrc; highest = h }) → names ssrc (at model k) ≡ true
      test k h e =
          sym (named sent_meaning after.cells k (place_at after.places k) ssrc (at model k) (same_reading.each k))
          ∙ ap (is_stream ssrc) e
          ∙ eq-eqb ssrc ssrc refl

  -- ---- a stream by itself
  module _ (ssrc : ℕ) where
    abbrev history : List Happened
    history = history_of ssrc cs (sender_answers st cs)

    -- its highest full number goes by the accepted registrations alone
    abbrev top : ℕ
    top = top_of (sent_in history)

    abbrev entries : List Entry
    entries = entries_in (stream_by ssrc history)

    pub by_history : stream_in model ssrc ≡ stream_by ssrc history
    by_history =
        (run_seen cs start (vacant_once Entry (length st.places))).each ssrc
        ∙ ap (λ (P : Place Entry). stream_from ssrc P (history_of ssrc cs (model_answers start cs))) (vacant_stream Entry (length st.places) ssrc)
        ∙ sym (ap (λ (xs : List CallAnswer). stream_by ssrc (history_of ssrc cs xs)) same_answers)

    pub status_by_history : (number : ℕ) → number < sequence_numbers
        → status_asked after.places after.cells ssrc number ≡ model_status (stream_by ssrc history) number
    status_by_history number low = same_status ssrc number low ∙ ap (λ (P : Place Entry). model_status P number) by_history

    -- no place holds the stream: no registration of it was accepted
    pub not_held_lem : find_of after.places ssrc ≡ None → sent_in history ≡ []
    not_held_lem e =
        (by_registrations ssrc history).some
        (sym by_history ∙ ap (λ (f : Option ℕ). found_in f model) (sym (find_same sent_meaning after model same_reading ssrc) ∙ e))

    -- a stream that the store holds
    module _ (p : ℕ) (found : find_of after.places ssrc ≡ Some p) where
      held_there : (top' : ℕ) × ((es : List Entry) × ((at model p ≡ stream ssrc top' es) × (stream_by ssrc history ≡ stream ssrc top' es)))
      held_there =
          let e : find_in model ssrc ≡ Some p = sym (find_same sent_meaning after model same_reading ssrc) ∙ found in
          let n = named_is ssrc (at model p) (first_true (λ (i : ℕ). names ssrc (at model i)) (length model) 0 p e) in
          (n.0, (n.1.0, (n.1.1, sym by_history ∙ ap (λ (f : Option ℕ). found_in f model) e ∙ n.1.1)))

      -- a registration of it was accepted
      pub some_sent : sent_in history ≡ [] → ⊥
      some_sent e = let f = sym ((by_registrations ssrc history).none e) ∙ held_there.1.1.1 in never (cc)

      top_there : top ≡ held_there.0
      top_there = sym (by_registrations ssrc history).highest ∙ ap highest_in held_there.1.1.1

      -- its highest number, and each cell of its window, are as its history says
      pub held_by_history : Holds sent_meaning after.cells p (place_at after.places p) ssrc top entries
      held_by_history =
          let h = held_there in
          rw (top_there, h.1.1.1) (rw h.1.1.0 at (same_reading.each p))

      -- its highest number is the highest of the accepted registrations
      pub highest_by_history : place_at after.places p ≡ Some (record { ssrc = ssrc; highest = top % sequence_numbers })
      highest_by_history = held_by_history.place

      -- each word of the window says what was reported, sentence by sentence
      pub word_by_history : (n : ℕ) → n ≤ top → top < n + cells_of_a_place → AsReported (read_word_of (cell_at after.cells p n)) entries n
      word_by_history n a b = rw (held_by_history.window n a b) (as_reported entries n)

      -- and the call answers with it: whatever the sentences hold of is the answer
      pub status_as_reported : (n : ℕ) → n ≤ top → top < n + cells_of_a_place → (a : Option Status) → AsReported a entries n
          → status_asked after.places after.cells ssrc (n % sequence_numbers) ≡ answer_of a
      status_as_reported n a b s r =
          let e = held_there.1.1.1 in
          let same = as_reported_once entries n s (shown_by entries n) r (as_reported entries n) in
          status_by_history (n % sequence_numbers) (omega arith)
          ∙ rw (same, e)
          (window_status ssrc held_there.0 n held_there.1.0 (rw top_there at held_by_history.begun) (rw top_there at a) (rw top_there at b))

      -- 37 is not the answer about a number of the window exactly if an accepted registration had its full number
      pub known_if_sent : (n : ℕ) → n ≤ top → top < n + cells_of_a_place → Memᴰ n (fulls_of (sent_in history))
          → status_asked after.places after.cells ssrc (n % sequence_numbers) ≡ Err NotRegistered → ⊥
      known_if_sent n a b m h =
          let there = registered_are entries n (rw (by_registrations ssrc history).entered m) in
          (as_reported entries n).registered_if there
          (unknown (shown_by entries n) (sym (status_as_reported n a b (shown_by entries n) (as_reported entries n)) ∙ h))
        where
          unknown : (s : Option Status) → answer_of s ≡ Err NotRegistered → s ≡ None
          unknown None e = refl
          unknown (Some s) e = never (cc)

      pub sent_if_known : (n : ℕ) → n ≤ top → top < n + cells_of_a_place → (s : Status)
          → status_asked after.places after.cells ssrc (n % sequence_numbers) ≡ Ok s → Memᴰ n (fulls_of (sent_in history))
      sent_if_known n a b s h =
          let shown = known (shown_by entries n) (sym (status_as_reported n a b (shown_by entries n) (as_reported entries n)) ∙ h) in
          rw (← (by_registrations ssrc history).entered) (registered_have entries n ((as_reported entries n).registered_only s shown))
        where
          known : (x : Option Status) → answer_of x ≡ Ok s → x ≡ Some s
          known None e = never (cc)
          known (Some t) e = let q : t ≡ s = cc in ap Some q

    -- no registration of it was accepted: no place holds the stream
    pub none_held : sent_in history ≡ [] → find_of after.places ssrc ≡ None
    none_held e = by_search (find_of after.places ssrc) refl
      where
        by_search : (f : Option ℕ) → find_of after.places ssrc ≡ f → f ≡ None
        by_search (Some p) found = absurd (some_sent p found e)
        by_search None found = refl

-- two fresh stores with the same history of a stream say the same of it
module _ (st st' : Store) (new : Fresh st) (new' : Fresh st') (cs cs' : List Call) (range : All CallInRange cs) (range' : All CallInRange cs')
    (ssrc : ℕ) (same : history_of ssrc cs (sender_answers st cs) ≡ history_of ssrc cs' (sender_answers st' cs')) where
  not_held_too : find_of (sender_run st cs).places ssrc ≡ None → find_of (sender_run st' cs').places ssrc ≡ None
  not_held_too e = none_held st' new' cs' range' ssrc (ap sent_in (sym same) ∙ not_held_lem st new cs range ssrc e)

  held_too : (p highest : ℕ) → HeldAt (sender_run st cs).places ssrc p highest → (q : ℕ) × HeldAt (sender_run st' cs').places ssrc q highest
  held_too p highest H = by_search (find_of (sender_run st' cs').places ssrc) refl
    where
      found : find_of (sender_run st cs).places ssrc ≡ Some p
      found = (held_found (sender_run st cs).places ssrc p highest H).0

      by_search : (f : Option ℕ) → find_of (sender_run st' cs').places ssrc ≡ f → (q : ℕ) × HeldAt (sender_run st' cs').places ssrc q highest
      by_search (Some q) e =
          let here = highest_by_history st new cs range ssrc p found in
          let there = highest_by_history st' new' cs' range' ssrc q e in (
            q,
            record {
              holds = there ∙ ap (λ (hs : List Happened). Some (record { ssrc = ssrc; highest = top_of (sent_in hs) % sequence_numbers })) (sym same) ∙ sym here ∙ H.holds;
              first = (found_held (sender_run st' cs').places ssrc q e).first;
            },
          )
      by_search None e =
          absurd (some_sent st new cs range ssrc p found (ap sent_in same ∙ not_held_lem st' new' cs' range' ssrc e))

  pub same_stream : SameStream (sender_run st cs) (sender_run st' cs') ssrc
  same_stream = record {
    unheld = λ n. lost_unheld (sender_run st' cs').places ssrc (not_held_too (unheld_lost (sender_run st cs).places ssrc n));
    held = held_too;
    statuses = λ number low.
        status_by_history st new cs range ssrc number low
        ∙ ap (λ (hs : List Happened). model_status (stream_by ssrc hs) number) same
        ∙ sym (status_by_history st' new' cs' range' ssrc number low);
  }
