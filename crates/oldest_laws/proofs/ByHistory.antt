-- The oldest number of a stream's window is the lowest that an accepted arrival had, for every
-- list of arrivals and forgets from a fresh store; and the request that starts with it and ends
-- with the highest number is sound. Assumes nothing.
use Prim.Native.Nat.{ℕ, ◌+◌, ◌-◌, ◌%◌, ◌<◌, ◌≤◌}
use mathlib.Core.Path.{◌≡◌, sym, ap, ◌∙◌}
use mathlib.Core.List.{List, [], ◌∷◌, Memᴰ}
use native.Mathlib.Omega.{arith}
use Rattle.lists.specs.All.{All}
use Rattle.lists.proofs.All.{all_member}
use Rattle.lists.proofs.Cases.{split_le}
use Rattle.refusal.specs.declared.Refusal.{Refusal}
use Rattle.ring.specs.Ring.{cells_of_a_place}
use Rattle.window.specs.Number.{distance_of, sequence_numbers}
use Rattle.places.specs.Place.{place_at, find_of}
use Rattle.places.specs.Held.{HeldAt}
use Rattle.std.specs.Prelude.{Option, Result, Some, Ok}
use Rattle.std.proofs.lemmas.Option.{same_Some}
use Rattle.places.specs.declared.Stream.{Stream}
use Rattle.places.proofs.Held.{held_found}
use Rattle.places.proofs.Shape.{shaped_is}
use Rattle.place_window.specs.Window.{cell_at}
use Rattle.cells.specs.Cell.{read_cell}
use Rattle.streams.specs.Reading.{Store, Fresh}
use Rattle.history.specs.Calls.{Call, CallInRange, store_run, Accepted}
use Rattle.history.specs.Meaning.{Entry, top_of, entries_of, cell_by}
use Rattle.history.specs.Reading.{Holds}
use Rattle.history.proofs.ByHistory.{by_history, no_ssrc_twice, same_reading, highest_attained}
use Rattle.history.proofs.Filled.{as_arrivals}
use Rattle.feedback.specs.Seen.{StandsFor, history_of}
use Rattle.feedback.proofs.Window.{full_number_lem, cell_in_window}
use Rattle.cutting.specs.declared.Request.{Request}
use Rattle.writer_laws.specs.Refused.{Named, InWindow, SoundAt, FaultIn}
use Rattle.oldest.specs.Oldest.{oldest_in, oldest_of}
use Rattle.oldest_laws.specs.Given.{NotArrived, OldestIs, arrived, none, up_to_highest}
use Rattle.oldest_laws.specs.ByHistory.{OldestArrived}
use Rattle.oldest_laws.proofs.Given.{distance_back, oldest_is, oldest_range}

-- ---- entries
-- the highest full number of a stream that has begun is that of an arrival
attained : (l : List Accepted) → sequence_numbers ≤ top_of l → (e : Entry) × (Memᴰ e (entries_of l) × (e.full ≡ top_of l))
attained [] g = absurd (omega arith)
attained (a ∷ l) g = highest_attained a l

-- ---- a window that reads as the entries say
module _ (cells : List ℕ) (p : ℕ) (h : Option Stream) (ssrc : ℕ) (past : List Accepted) (held : Holds cells p h ssrc (top_of past) (entries_of past)) where
  abbrev top : ℕ
  top = top_of past

  abbrev highest : ℕ
  highest = top_of past % sequence_numbers

  -- the number b behind the highest stands for the full number b below the highest one
  stands : (b : ℕ) → b < cells_of_a_place → StandsFor top (distance_of highest b) (top - b)
  stands b l =
      let g = held.begun in
      let e = distance_back highest b (omega arith) (omega arith) in
      rw e at (full_number_lem top (distance_of highest b) held.begun (omega arith) (rw e l))

  cell_reads : (b : ℕ) → b < cells_of_a_place → read_cell (cell_at cells p (distance_of highest b)) ≡ cell_by (entries_of past) (top - b)
  cell_reads b l =
      let e = distance_back highest b (omega arith) (omega arith) in
      rw e at (cell_in_window cells p h ssrc top (entries_of past) (distance_of highest b) held (omega arith) (rw e l))

  -- no accepted arrival had the full number of an empty cell
  none_had : (b : ℕ) → b < cells_of_a_place → NotArrived cells p highest b → (e : Entry) → Memᴰ e (entries_of past) → e.full ≡ top - b → ⊥
  none_had b l n e m q = (as_arrivals (entries_of past) (top - b)).filled e m q (sym (cell_reads b l) ∙ n)

  oldest_had : (s : ℕ) → OldestIs cells p highest s → OldestArrived past s
  oldest_had s (arrived b mark time l f before) = record {
    full = top - b;
    stands = stands b l;
    had = (as_arrivals (entries_of past) (top - b)).only mark time (sym (cell_reads b l) ∙ f);
    lowest = λ e m near.
        let most : e.full ≤ top = all_member (λ (d : Entry). d.full ≤ top) (entries_of past) e held.highest m in
        split_le (top - b) e.full
        (λ g. g)
        (λ g. absurd (none_had (top - e.full) (omega arith) (before (top - e.full) (omega arith) (omega arith)) e m (omega arith)));
  }
  oldest_had s (none before) =
      let a = attained past held.begun in
      absurd (none_had 0 (omega arith) (before 0 (omega arith)) a.0 a.1.0 (omega (arith, a.1.1)))

-- ---- every list of calls to a fresh store
module _ (st : Store) (new : Fresh st) (cs : List Call) (range : All CallInRange cs) (k ssrc highest : ℕ)
    (is : place_at (store_run st cs).places k ≡ Some (record { ssrc = ssrc; highest = highest })) where
  held_at : HeldAt (store_run st cs).places ssrc k highest
  held_at = record { holds = is; first = first }
    where
      first : (j h : ℕ) → j < k → place_at (store_run st cs).places j ≡ Some (record { ssrc = ssrc; highest = h }) → ⊥
      first j h l e = let q = no_ssrc_twice st new cs range ssrc j k h highest e is in omega arith

  found : find_of (store_run st cs).places ssrc ≡ Some k
  found = (held_found (store_run st cs).places ssrc k highest held_at).0

  holds : Holds (store_run st cs).cells k (place_at (store_run st cs).places k) ssrc (top_of (history_of st cs ssrc)) (entries_of (history_of st cs ssrc))
  holds = by_history st new cs range ssrc k found

  same_highest : (a b : ℕ) → place_at (store_run st cs).places k ≡ Some (record { ssrc = ssrc; highest = a }) → place_at (store_run st cs).places k ≡ Some (record { ssrc = ssrc; highest = b }) → a ≡ b
  same_highest a b e f = ap (λ (x : Stream). x.highest) (same_Some _ _ (sym e ∙ f))

  highest_is : highest ≡ top_of (history_of st cs ssrc) % sequence_numbers
  highest_is = same_highest _ _ is holds.place

  answered : oldest_of (store_run st cs).places (store_run st cs).cells k ≡ Ok (oldest_in (store_run st cs).cells k highest)
  answered = rw (shaped_is _ _ (same_reading st new cs range).shape, is)

  -- the answer for a stream that the store holds is the lowest number of its window that an
  -- accepted arrival had since it took its place
  pub oldest_by_history : (s : ℕ) × ((oldest_of (store_run st cs).places (store_run st cs).cells k ≡ Ok s) × OldestArrived (history_of st cs ssrc) s)
  oldest_by_history = (
    oldest_in (store_run st cs).cells k highest,
    (
      answered,
      oldest_had (store_run st cs).cells k (place_at (store_run st cs).places k) ssrc (history_of st cs ssrc) holds (oldest_in (store_run st cs).cells k highest)
          (rw (← highest_is) (oldest_is (store_run st cs).cells k highest)),
    ),
  )

  -- ---- the request that starts with the oldest number and ends with highest, after requests for
  -- other streams
  module _ (earlier : List Request) (other : Named ssrc earlier → ⊥) (s : ℕ)
      (given : oldest_of (store_run st cs).places (store_run st cs).cells k ≡ Ok s) where
    in_window : InWindow highest s (distance_of highest s + 1)
    in_window =
        let e : oldest_in (store_run st cs).cells k highest ≡ s = same_number _ _ (sym answered ∙ given) in
        oldest_range (store_run st cs).cells k highest s (omega (arith, highest_is)) (rw e at (oldest_is (store_run st cs).cells k highest))
      where
        same_number : (a b : ℕ) → ◌≡◌ {A = Result ℕ Refusal} (Ok a) (Ok b) → a ≡ b
        same_number a b e = cc

    -- it is sound: place k is the first that holds the stream, and the range lies in the window
    pub oldest_sound : SoundAt (store_run st cs).places earlier (up_to_highest ssrc highest s) k
    oldest_sound = record { highest = highest; held = held_at; new = other; range = in_window }

    -- so it has no fault: none of 5, 8, 9 is given for it
    pub oldest_no_fault : (e : Refusal) → FaultIn (store_run st cs).places earlier (up_to_highest ssrc highest s) e → ⊥
    oldest_no_fault e (FaultIn.not_held f) = f k highest is
    oldest_no_fault e (FaultIn.repeated p h f n) = other n
    oldest_no_fault e (FaultIn.bad_range p h f n w) =
        let q : p ≡ k = no_ssrc_twice st new cs range ssrc p k h highest f.holds is in
        let t : h ≡ highest = same_highest _ _ (rw q at f.holds) is in
        w (rw t in_window)

-- ---- the rules leave one number
-- two numbers that are the oldest of one stream are one
pub oldest_one : (history : List Accepted) (s t : ℕ) → OldestArrived history s → OldestArrived history t → s ≡ t
oldest_one history s t a b =
    let e : a.full ≡ b.full = omega (arith, low history s t a b, low history t s b a) in
    sym a.stands.low ∙ ap (λ (n : ℕ). n % sequence_numbers) e ∙ b.stands.low
  where
    low : (history : List Accepted) (s t : ℕ) → (a : OldestArrived history s) (b : OldestArrived history t) → a.full ≤ b.full
    low history s t a b =
        let e = b.had.1.1 in
        let l = b.stands.least in
        let g = a.lowest b.had.0 b.had.1.0 (omega arith) in omega arith
