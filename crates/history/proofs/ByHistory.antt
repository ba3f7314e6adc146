-- The theorems by history, over every list of arrivals and forgets from a fresh store. Assumes nothing.
use Prim.Native.Nat.{ℕ, ◌+◌, ◌-◌, ◌%◌, ◌^◌, ◌<◌, ◌≤◌, max}
use mathlib.Core.Path.{◌≡◌, refl, sym, ap, subst, ◌∙◌}
use mathlib.Core.Bool.{Bool, true, false, cond, ◌&&◌, false≢true}
use mathlib.Core.List.{List, [], ◌∷◌, ◌++◌, map, map-map}
use mathlib.Core.List.Memᴰ
use mathlib.Core.List.{Memᴰ}
use mathlib.Core.Logic.{⊎_elim}
use native.Mathlib.Omega.{arith}
use native.Mathlib.Decide.{dec_le}
use borrow.Author.Tests.{lt-ltb, eq-eqb}
use lib.Dec.{eqb}
use lib.ListN.{length}
use Rattle.lists.specs.All.{All}
use Rattle.std.specs.Prelude.{Option, Some, None}
use Rattle.lists.proofs.First.{first_true}
use Rattle.lists.proofs.All.{all_map, all_over, all_append, all_zip}
use Rattle.lists.proofs.Cases.{never}
use Rattle.places.specs.Place.{place_at, is_stream, find_of}
use Rattle.places.specs.Held.{HeldAt}
use Rattle.places.proofs.Held.{found_held, lost_unheld}
use Rattle.place_window.specs.Window.{cell_at}
use Rattle.cells.specs.Cell.{read_cell}
use Rattle.store.specs.Store.{place_of}
use Rattle.cell_metrics.specs.Metrics.{cell_metric}
use Rattle.streams.specs.Full.{full_of, first_full}
use Rattle.streams.specs.Model.{Place, free, names, at, found_in, vacant}
use Rattle.streams.specs.Reading.{Store, Fresh}
use Rattle.streams.proofs.Fulls.{fulls_kept, top_attained}
use Rattle.streams.proofs.Places.{named, find_same}
use Rattle.streams.proofs.Fresh.{fresh_reads}
use Rattle.history.specs.Calls.{Call, arrive, forget, CallAnswer, store_run, store_answers, Accepted, accepted_of, is_done, heard, heard_all, CallInRange}
use Rattle.history.specs.Meaning.{Entry, count_from, entries_of, top_of, AsArrivals, EntryInRange, AcceptedInRange}
use Rattle.history.specs.Model.{model_place, model_step, model_answer, model_run, model_answers}
use Rattle.history.specs.Reading.{arrival_meaning, Holds, Reads}
use Rattle.history.specs.Alone.{SameStream, unheld, held}
use Rattle.history.proofs.Filled.{as_arrivals}
use Rattle.history.proofs.Simulation.{place_alike, simulates}
use Rattle.history.proofs.Heard.{place_by, Kept, run_kept, last_forgotten, vacant_kept}
use Rattle.history.proofs.Numbers.{top_of_numbers, fulls_of_numbers}
use Rattle.metric.specs.Metric.{congested, TimeInRange}
use Rattle.window.specs.Number.{sequence_numbers}
use Rattle.ring.specs.Ring.{cells_of_a_place}

-- ---- accepted arrivals and their full numbers
-- an accepted arrival has a mark of 0 to 3
done_mark : (ps : List (Place Entry)) (x number mark : ℕ) (time : Option ℕ) → is_done (model_answer ps (arrive x number mark time)) ≡ true → mark ≤ congested
done_mark ps x number mark time d =
    elim (dec_le mark congested) [ yes m ↦ m | no m ↦ absurd (false≢true (rw (lt-ltb congested mark (omega arith)) at d)) ]

heard_range : (y : ℕ) (l : List Accepted) (ps : List (Place Entry)) (c : Call) → CallInRange c → All AcceptedInRange l
    → All AcceptedInRange (heard y l c (is_done (model_answer ps c)))
heard_range y l ps (arrive x number mark time) r h =
    picked (eqb x y) (is_done (model_answer ps (arrive x number mark time))) (λ d. (r.1.0, (done_mark ps x number mark time d, r.1.1)))
  where
    picked : (b d : Bool) → (d ≡ true → AcceptedInRange (record { number = number; mark = mark; time = time }))
        → All AcceptedInRange (cond (b && d) (l ++ (record { number = number; mark = mark; time = time } ∷ [])) l)
    picked true true g = all_append AcceptedInRange l (record { number = number; mark = mark; time = time }) h (g refl)
    picked true false g = h
    picked false d g = h
heard_range y l ps (forget x) r h = picked (eqb x y && is_done (model_answer ps (forget x)))
  where
    picked : (b : Bool) → All AcceptedInRange (cond b [] l)
    picked true = tt
    picked false = h

run_range : (y : ℕ) (cs : List Call) (ps : List (Place Entry)) (l : List Accepted) → All CallInRange cs
    → All AcceptedInRange l → All AcceptedInRange (heard_all y l cs (model_answers ps cs))
run_range y [] ps l r h = h
run_range y (c ∷ cs) ps l r h = run_range y cs (model_step ps c) (heard y l c (is_done (model_answer ps c))) r.1 (heard_range y l ps c r.0 h)

-- the low 16 bits of the full numbers are the sequence numbers of the arrivals
pub numbers_kept : (l : List Accepted) → All AcceptedInRange l → map (λ (e : Entry). e.full % sequence_numbers) (entries_of l) ≡ map (λ (a : Accepted). a.number) l
numbers_kept l h =
    sym (map-map (λ (f : ℕ). f % sequence_numbers) (λ (e : Entry). e.full) (entries_of l))
    ∙ ap (map (λ (f : ℕ). f % sequence_numbers)) (fulls_of_numbers l)
    ∙ fulls_kept (map (λ (a : Accepted). a.number) l)
    (all_over (λ (n : ℕ). n < sequence_numbers) (λ (a : Accepted). a.number) l (all_map l (λ a q. q.0) h))

-- each entry has the mark and the time of its arrival
abbrev MarkAndTimeInRange : Entry → Type 0
MarkAndTimeInRange e = (e.mark ≤ congested) × TimeInRange e.time

count_kept : (l : List Accepted) (top : ℕ) → All AcceptedInRange l → All MarkAndTimeInRange (count_from top l)
unfolding count_from
count_kept [] top h = tt
count_kept (a ∷ l) top h = (h.0.1, count_kept l (max top (full_of top a.number)) h.1)

entries_kept : (l : List Accepted) → All AcceptedInRange l → All MarkAndTimeInRange (entries_of l)
entries_kept [] h = tt
entries_kept (a ∷ l) h = (h.0.1, count_kept l (first_full a.number) h.1)

-- the highest full number is that of an arrival
entry_of_full : (es : List Entry) (n : ℕ) → Memᴰ n (map (λ (e : Entry). e.full) es) → (e : Entry) × (Memᴰ e es × (e.full ≡ n))
entry_of_full [] n m = absurd (Memᴰ.not-nil m)
entry_of_full (e ∷ es) n m = ⊎_elim (λ h. (e, (Memᴰ.head refl, sym h))) (λ h. later (entry_of_full es n h)) (Memᴰ.cases_cons m)
  where
    later : (d : Entry) × (Memᴰ d es × (d.full ≡ n)) → (d : Entry) × (Memᴰ d (e ∷ es) × (d.full ≡ n))
    later h = (h.0, (Memᴰ.tail h.1.0, h.1.1))

pub highest_attained : (a : Accepted) (l : List Accepted) → (e : Entry) × (Memᴰ e (entries_of (a ∷ l)) × (e.full ≡ top_of (a ∷ l)))
highest_attained a l =
    entry_of_full (entries_of (a ∷ l)) (top_of (a ∷ l))
    (rw (fulls_of_numbers (a ∷ l), top_of_numbers (a ∷ l)) (top_attained a.number (map (λ (x : Accepted). x.number) l)))

-- ---- every list of calls to a fresh store
module _ (st : Store) (new : Fresh st) (cs : List Call) (range : All CallInRange cs) where
  abbrev model : List (Place Entry)
  model = model_run (vacant (length st.places)) cs

  abbrev history : ℕ → List Accepted
  history ssrc = accepted_of ssrc cs (store_answers st cs)

  -- the store answers each call as the machine does
  pub same_answers : store_answers st cs ≡ model_answers (vacant (length st.places)) cs
  same_answers = (simulates cs range st (vacant (length st.places)) (fresh_reads arrival_meaning st new)).0

  -- and reads as the machine says, place by place and cell by cell
  pub same_reading : Reads (store_run st cs) model
  same_reading = (simulates cs range st (vacant (length st.places)) (fresh_reads arrival_meaning st new)).1

  pub same_place : (k : ℕ) → place_of (store_run st cs).places (store_run st cs).cells k ≡ model_place (at model k)
  same_place k = place_alike (store_run st cs) model same_reading k

  pub kept : Kept model history
  kept = subst (λ (xs : List CallAnswer). Kept model (λ (y : ℕ). accepted_of y cs xs)) (sym same_answers)
      (run_kept cs (vacant (length st.places)) (λ (y : ℕ). []) (vacant_kept (length st.places)))

  -- no SSRC in two places
  pub no_ssrc_twice : (ssrc p q h g : ℕ) → place_at (store_run st cs).places p ≡ Some (record { ssrc = ssrc; highest = h }) → place_at (store_run st cs).places q ≡ Some (record { ssrc = ssrc; highest = g }) → p ≡ q
  no_ssrc_twice ssrc p q h g a b = kept.once ssrc p q (test p h a) (test q g b)
    where
      test : (k h : ℕ) → place_at (store_run st cs).places k ≡ Some (record { ssrc = ssrc; highest = h }) → names ssrc (at model k) ≡ true
      test k h e =
          sym (named arrival_meaning (store_run st cs).cells k (place_at (store_run st cs).places k) ssrc (at model k) (same_reading.each k))
          ∙ ap (is_stream ssrc) e
          ∙ eq-eqb ssrc ssrc refl

  module _ (ssrc : ℕ) where
    found_by : (f : Option ℕ) → find_of (store_run st cs).places ssrc ≡ f → found_in f model ≡ place_by ssrc (history ssrc)
    found_by f e = ap (λ (g : Option ℕ). found_in g model) (sym (sym (find_same arrival_meaning (store_run st cs) model same_reading ssrc) ∙ e)) ∙ kept.each ssrc

    -- a stream that the store does not hold has no accepted arrival since it was forgotten, and the other way round
    pub not_held_lem : find_of (store_run st cs).places ssrc ≡ None → history ssrc ≡ []
    not_held_lem e = none (history ssrc) (found_by None e)
      where
        none : (l : List Accepted) → free ≡ place_by ssrc l → l ≡ []
        none [] h = refl
        none (a ∷ l) h = never (cc)

    not_free : (p : ℕ) → find_of (store_run st cs).places ssrc ≡ Some p → at model p ≡ free → ⊥
    not_free p found e =
        let t = first_true (λ (k : ℕ). names ssrc (at model k)) (length model) 0 p (sym (find_same arrival_meaning (store_run st cs) model same_reading ssrc) ∙ found) in
        false≢true (sym (ap (names ssrc) e) ∙ t)

    pub none_held : history ssrc ≡ [] → find_of (store_run st cs).places ssrc ≡ None
    none_held e = by_search (find_of (store_run st cs).places ssrc) refl
      where
        by_search : (f : Option ℕ) → find_of (store_run st cs).places ssrc ≡ f → f ≡ None
        by_search (Some p) g = absurd (not_free p g (found_by (Some p) g ∙ ap (place_by ssrc) e))
        by_search None g = refl

    -- rule "Forgetting": once the stream is forgotten its history is empty, also where it was not held and that was refused
    pub forgotten_history : ssrc < 2 ^ 32 → accepted_of ssrc (cs ++ (forget ssrc ∷ [])) (store_answers st (cs ++ (forget ssrc ∷ []))) ≡ []
    forgotten_history low =
        rw (simulates (cs ++ (forget ssrc ∷ [])) (all_append CallInRange cs (forget ssrc) range low) st (vacant (length st.places))
        (fresh_reads arrival_meaning st new)).0
        (last_forgotten cs (vacant (length st.places)) (λ (y : ℕ). []) (vacant_kept (length st.places)) ssrc)

    pub accepted_in_range : All AcceptedInRange (history ssrc)
    accepted_in_range = rw same_answers (run_range ssrc cs (vacant (length st.places)) [] range tt)

    module _ (p : ℕ) (found : find_of (store_run st cs).places ssrc ≡ Some p) where
      -- a stream that it holds: H, and each cell of its window, are as its accepted arrivals say
      pub by_history : Holds (store_run st cs).cells p (place_at (store_run st cs).places p) ssrc (top_of (history ssrc)) (entries_of (history ssrc))
      by_history = holds (history ssrc) (found_by (Some p) found)
        where
          holds : (l : List Accepted) → at model p ≡ place_by ssrc l
              → Holds (store_run st cs).cells p (place_at (store_run st cs).places p) ssrc (top_of l) (entries_of l)
          holds [] e = absurd (not_free p found e)
          holds (a ∷ l) e = rw e at (same_reading.each p)

      pub held_by_history : HeldAt (store_run st cs).places ssrc p (top_of (history ssrc) % sequence_numbers)
      held_by_history = record { holds = by_history.place; first = (found_held (store_run st cs).places ssrc p found).first }

      pub cell_by_history : (n : ℕ) → n ≤ top_of (history ssrc) → top_of (history ssrc) < n + cells_of_a_place
          → AsArrivals (read_cell (cell_at (store_run st cs).cells p n)) (entries_of (history ssrc)) n
      cell_by_history n a b = rw (by_history.window n a b) (as_arrivals (entries_of (history ssrc)) n)

    -- the entries of every stream
    pub entries_in_range : All EntryInRange (entries_of (history ssrc))
    entries_in_range = by_search (find_of (store_run st cs).places ssrc) refl
      where
        by_search : (f : Option ℕ) → find_of (store_run st cs).places ssrc ≡ f → All EntryInRange (entries_of (history ssrc))
        by_search (Some p) e =
            all_zip (entries_of (history ssrc)) (λ d low kept. (low, kept)) (by_history p e).lowest
            (entries_kept (history ssrc) accepted_in_range)
        by_search None e = rw (not_held_lem e) tt

-- ---- a stream by itself
-- each slot of the ring is that of one number of the window
slot_number : (top s : ℕ) → cells_of_a_place ≤ top → (n : ℕ) × ((n ≤ top) × ((top < n + cells_of_a_place) × (n % cells_of_a_place ≡ s % cells_of_a_place)))
slot_number top s g = (top - (top + cells_of_a_place - s % cells_of_a_place) % cells_of_a_place, (omega arith, (omega arith, omega arith)))

module _ (st st' : Store) (new : Fresh st) (new' : Fresh st') (cs cs' : List Call) (range : All CallInRange cs) (range' : All CallInRange cs')
    (ssrc : ℕ) (same : accepted_of ssrc cs (store_answers st cs) ≡ accepted_of ssrc cs' (store_answers st' cs')) where
  abbrev past : List Accepted
  past = accepted_of ssrc cs (store_answers st cs)

  -- held in one exactly if held in the other: a stream is held exactly if it has an accepted arrival
  not_held_too : find_of (store_run st cs).places ssrc ≡ None → find_of (store_run st' cs').places ssrc ≡ None
  not_held_too e = none_held st' new' cs' range' ssrc (sym same ∙ not_held_lem st new cs range ssrc e)

  module _ (p : ℕ) (found : find_of (store_run st cs).places ssrc ≡ Some p) where
    -- the other store holds the stream too
    pub same_held : (q : ℕ) × (find_of (store_run st' cs').places ssrc ≡ Some q)
    same_held = by_search (find_of (store_run st' cs').places ssrc) refl
      where
        by_search : (f : Option ℕ) → find_of (store_run st' cs').places ssrc ≡ f → (q : ℕ) × (find_of (store_run st' cs').places ssrc ≡ Some q)
        by_search (Some q) e = (q, e)
        by_search None e =
            let none : find_of (store_run st cs).places ssrc ≡ None = none_held st new cs range ssrc (same ∙ not_held_lem st' new' cs' range' ssrc e) in
            never (cc)

    H : Holds (store_run st cs).cells p (place_at (store_run st cs).places p) ssrc (top_of past) (entries_of past)
    H = by_history st new cs range ssrc p found

    H' : Holds (store_run st' cs').cells same_held.0 (place_at (store_run st' cs').places same_held.0) ssrc (top_of past) (entries_of past)
    H' = rw same (by_history st' new' cs' range' ssrc same_held.0 same_held.1)

    -- with the same SSRC and highest number, wherever it stands there
    pub same_highest : place_at (store_run st cs).places p ≡ place_at (store_run st' cs').places same_held.0
    same_highest = H.place ∙ sym H'.place

    -- rule "Streams do not mix": and at any RTS every number has the same metric in both
    pub same_metrics : (rts number : ℕ) → cell_metric (store_run st cs).cells rts p number ≡ cell_metric (store_run st' cs').cells rts same_held.0 number
    unfolding cell_metric
    same_metrics rts number =
        let g = H.begun in
        let n = slot_number (top_of past) number (omega arith) in
        rw (← n.1.1.1, H.window n.0 n.1.0 n.1.1.0, H'.window n.0 n.1.0 n.1.1.0)

  -- all of it in one: two histories with the same accepted arrivals of a stream say the same of it
  pub same_stream : SameStream (store_run st cs) (store_run st' cs') ssrc
  same_stream = by_search (find_of (store_run st cs).places ssrc) refl
    where
      by_search : (f : Option ℕ) → find_of (store_run st cs).places ssrc ≡ f → SameStream (store_run st cs) (store_run st' cs') ssrc
      by_search None e =
          unheld (lost_unheld (store_run st cs).places ssrc e) (lost_unheld (store_run st' cs').places ssrc (not_held_too e))
      by_search (Some p) e =
          let q = same_held p e in
          held p q.0 (top_of past % sequence_numbers) (held_by_history st new cs range ssrc p e)
          (rw same (held_by_history st' new' cs' range' ssrc q.0 q.1)) (same_metrics p e)
