-- Rules: "What a store means". What the cells of a stream mean, by its accepted arrivals alone. Each
-- arrival has a full number (of `streams`): its sequence number, but without wrapping.
use Rattle.std.specs.Prelude.{ℕ, ◌≤◌, ◌<◌, max, Bool, false, cond, ◌||◌, ◌≡◌, eqb, Option, Some, None}
use mathlib.Core.List.{List, [], ◌∷◌, Memᴰ}
use Rattle.metric.specs.declared.Arrived.{Arrived}
use Rattle.metric.specs.Metric.{TimeInRange, congested}
use Rattle.window.specs.Number.{sequence_numbers}
use Rattle.streams.specs.Full.{full_of, first_full, lowest_full}
use Rattle.history.specs.Calls.{Accepted}

-- an accepted arrival with its full number
pub record Entry : Type 0 where
  pub full : ℕ
  pub mark : ℕ
  pub time : Option ℕ

abbrev pub entry_of : Accepted → ℕ → Entry
entry_of a full = record { full = full; mark = a.mark; time = a.time }

-- accepted arrivals with their full numbers, and the highest full number after them
unfoldable pub count_from : ℕ → List Accepted → List Entry
count_from top [] = []
count_from top (a ∷ more) = let full = full_of top a.number in entry_of a full ∷ count_from (max top full) more

unfoldable pub top_from : ℕ → List Accepted → ℕ
top_from top [] = top
top_from top (a ∷ more) = top_from (max top (full_of top a.number)) more

abbrev pub entries_of : List Accepted → List Entry
entries_of [] = []
entries_of (a ∷ more) = entry_of a (first_full a.number) ∷ count_from (first_full a.number) more

abbrev pub top_of : List Accepted → ℕ
top_of [] = 0
top_of (a ∷ more) = top_from (first_full a.number) more

-- the accepted arrivals of full number n, in the order of the calls
unfoldable pub copies_of : List Entry → ℕ → List Entry
copies_of [] n = []
copies_of (e ∷ es) n = let rest = copies_of es n in cond (eqb e.full n) (e ∷ rest) rest

abbrev pub any_ce : List Entry → Bool
any_ce [] = false
any_ce (e ∷ es) = eqb e.mark congested || any_ce es

-- rule "Filled", of the copies of a number: filled if there is one, with the first one's time, and
-- ECN-CE if any carried it, else the first one's mark
abbrev pub cell_of : List Entry → Option Arrived
cell_of [] = None
cell_of (e ∷ es) = Some (record { mark = cond (any_ce (e ∷ es)) congested e.mark; time = e.time })

-- what the entries say of the full number n
abbrev pub cell_by : List Entry → ℕ → Option Arrived
cell_by es n = cell_of (copies_of es n)

-- the same as `cell_by`, rule by rule
pub record AsArrivals (c : Option Arrived) (es : List Entry) (n : ℕ) : Type 0 where
  -- filled exactly if one of them had the full number
  pub filled : (e : Entry) → Memᴰ e es → e.full ≡ n → c ≡ None → ⊥
  pub only : (mark : ℕ) (time : Option ℕ) → c ≡ Some (record { mark = mark; time = time }) → (e : Entry) × (Memᴰ e es × (e.full ≡ n))
  -- with the first one's time
  pub first : (mark : ℕ) (time : Option ℕ) (e : Entry) (rest : List Entry) → c ≡ Some (record { mark = mark; time = time }) → copies_of es n ≡ e ∷ rest
      → time ≡ e.time
  -- ECN-CE if any of them carried it
  pub ce : (mark : ℕ) (time : Option ℕ) (e : Entry) → c ≡ Some (record { mark = mark; time = time }) → Memᴰ e es → e.full ≡ n → e.mark ≡ congested → mark ≡ congested
  -- else the first one's mark
  pub other : (mark : ℕ) (time : Option ℕ) (e : Entry) (rest : List Entry) → c ≡ Some (record { mark = mark; time = time }) → copies_of es n ≡ e ∷ rest
      → ((d : Entry) → Memᴰ d es → d.full ≡ n → d.mark ≡ congested → ⊥) → mark ≡ e.mark

-- an entry's full number is one of a window, its mark one of the four, its time a 32-bit count
abbrev pub EntryInRange : Entry → Type 0
EntryInRange e = (lowest_full ≤ e.full) × ((e.mark ≤ congested) × TimeInRange e.time)

abbrev pub AcceptedInRange : Accepted → Type 0
AcceptedInRange a = (a.number < sequence_numbers) × ((a.mark ≤ congested) × TimeInRange a.time)
