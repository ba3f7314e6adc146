-- The cells of a window after one more entry, over any word of a cell and any entries. Assumes nothing.
use Prim.Native.Nat.{ℕ, ◌+◌, ◌-◌, ◌*◌, ◌%◌, ◌<◌, ◌≤◌}
use mathlib.Core.Path.{◌≡◌, sym, ap, ◌∙◌}
use mathlib.Core.List.{List, [], ◌∷◌, ◌++◌}
use native.Mathlib.Omega.{arith}
use native.Mathlib.Decide.{ℕ_discrete, dec_le}
use lib.ListN.{length, get_or, length-set}
use lib.Seq.{get_or-set_same, get_or-set_other}
use Rattle.lists.specs.All.{All}
use Rattle.lists.proofs.All.{all_map}
use Rattle.ring.specs.Ring.{cells_of_a_place}
use Rattle.ring.proofs.Ring.{emptied_kept, emptied_gone, length_emptied}
use Rattle.window.specs.Number.{sequence_numbers}
use Rattle.place_window.specs.Window.{cell_at, newest_emptied, updated}
use Rattle.streams.specs.Reading.{Meaning, Lawful, Enters}
use Rattle.streams.proofs.Numbers.{same_slot, apart, counted, uncounted, other_place}

-- ---- the cell of one number changes
module _ (f : ℕ → ℕ) (cells : List ℕ) (k number : ℕ) where
  pub length_updated : length (updated f cells k number) ≡ length cells
  unfolding updated
  length_updated = rw length-set

  updated_same : (m : ℕ) → m % cells_of_a_place ≡ number % cells_of_a_place → cells_of_a_place * k + cells_of_a_place ≤ length cells
      → cell_at (updated f cells k number) k m ≡ f (cell_at cells k m)
  unfolding updated
  updated_same m e room = rw e (get_or-set_same cells (cells_of_a_place * k + number % cells_of_a_place) _ 0 (omega arith))

  updated_other : (j : ℕ) → (j ≡ cells_of_a_place * k + number % cells_of_a_place → ⊥) → get_or (updated f cells k number) j 0 ≡ get_or cells j 0
  unfolding updated
  updated_other j n = get_or-set_other cells (cells_of_a_place * k + number % cells_of_a_place) j _ 0 n

  -- those of another place stay
  pub updated_away : (q m : ℕ) → (q ≡ k → ⊥) → cell_at (updated f cells k number) q m ≡ cell_at cells q m
  updated_away q m n =
      updated_other (cells_of_a_place * q + m % cells_of_a_place) (other_place k q (m % cells_of_a_place) (number % cells_of_a_place) (omega arith) (omega arith) n)

-- ---- n numbers come into the window
module _ (cells : List ℕ) (k number n : ℕ) where
  pub length_newest : length (newest_emptied cells k number n) ≡ length cells
  unfolding newest_emptied
  length_newest = length_emptied n cells (cells_of_a_place * k) (number + (cells_of_a_place + 1) - n)

  pub newest_away : (q m : ℕ) → (q ≡ k → ⊥) → cell_at (newest_emptied cells k number n) q m ≡ cell_at cells q m
  unfolding newest_emptied
  newest_away q m a =
      emptied_kept n cells (cells_of_a_place * k) (number + (cells_of_a_place + 1) - n) (cells_of_a_place * q + m % cells_of_a_place)
      (λ i l. other_place k q (m % cells_of_a_place) ((number + (cells_of_a_place + 1) - n + i) % cells_of_a_place) (omega arith) (omega arith) a)

  -- full is the highest number now, and n numbers are new to its window
  module _ (full : ℕ) (low : full % sequence_numbers ≡ number) (few : n ≤ cells_of_a_place)
      (room : cells_of_a_place * k + cells_of_a_place ≤ length cells) (m : ℕ) (le : m ≤ full) where
    newest_new : full < m + n → cell_at (newest_emptied cells k number n) k m ≡ 0
    unfolding newest_emptied
    newest_new l =
        let s = counted full number m n low few le l in
        emptied_gone n (m + n - (full + 1)) cells (cells_of_a_place * k) (number + (cells_of_a_place + 1) - n)
        (cells_of_a_place * k + m % cells_of_a_place) (omega arith) (omega arith) (omega arith)

    newest_old : m + n ≤ full → full < m + cells_of_a_place → cell_at (newest_emptied cells k number n) k m ≡ cell_at cells k m
    unfolding newest_emptied
    newest_old l h =
        emptied_kept n cells (cells_of_a_place * k) (number + (cells_of_a_place + 1) - n) (cells_of_a_place * k + m % cells_of_a_place)
        (λ i b e. uncounted full number m n i low few l h b (omega arith))

-- ---- what the cells of a window say
module _ {E C : Type 0} (M : Meaning E C) (laws : Lawful M) where
  -- above the highest full number nothing was said
  pub silent_above : (top n : ℕ) (es : List E) → All (λ (e : E). M.full e ≤ top) es → top < n → M.shown es n ≡ M.read 0
  silent_above top n es below l = laws.silent es n (all_map es (λ e h q. omega arith) below)

  -- the window after the emptying, before the entry: the numbers that stay read as before, and of the new ones nothing was said
  pub newest_reads : (cells : List ℕ) (k number n full : ℕ) → full % sequence_numbers ≡ number → n ≤ cells_of_a_place
      → cells_of_a_place * k + cells_of_a_place ≤ length cells → (es : List E) (m : ℕ) → m ≤ full → full < m + cells_of_a_place
      → (m + n ≤ full → M.read (cell_at cells k m) ≡ M.shown es m) → (full < m + n → M.shown es m ≡ M.read 0)
      → M.read (cell_at (newest_emptied cells k number n) k m) ≡ M.shown es m
  newest_reads cells k number n full low few room es m le h old new =
      elim (dec_le (m + n) full) [
        | yes l ↦ ap M.read (newest_old cells k number n full low few room m le l h) ∙ old l
        | no l ↦
            let g : full < m + n = omega arith in
            ap M.read (newest_new cells k number n full low few room m le g) ∙ sym (new g)
      ]

  -- one more entry of a number of the window, where the window reads as the entries before it say
  pub updated_reads : (f : ℕ → ℕ) (e : E) → Enters M f e → (cells : List ℕ) (k top number : ℕ) (es : List E)
      → M.full e % sequence_numbers ≡ number → M.full e ≤ top → top < M.full e + cells_of_a_place
      → cells_of_a_place * k + cells_of_a_place ≤ length cells
      → ((m : ℕ) → m ≤ top → top < m + cells_of_a_place → M.read (cell_at cells k m) ≡ M.shown es m)
      → (m : ℕ) → m ≤ top → top < m + cells_of_a_place
      → M.read (cell_at (updated f cells k number) k m) ≡ M.shown (es ++ (e ∷ [])) m
  updated_reads f e enters cells k top number es low le lt room before m mle mlt =
      elim (ℕ_discrete (M.full e) m) [
        | yes q ↦
            let s : m % cells_of_a_place ≡ number % cells_of_a_place = same_slot m number (rw (← q) low) in
            ap M.read (updated_same f cells k number m s room) ∙ entered q
        | no q ↦
            let s = same_slot (M.full e) number low in
            ap M.read
            (updated_other f cells k number (cells_of_a_place * k + m % cells_of_a_place)
            (λ h. q (apart top (M.full e) m le lt mle mlt (omega arith))))
            ∙ before m mle mlt
            ∙ sym (laws.other es e m q)
      ]
    where
      entered : M.full e ≡ m → M.read (f (cell_at cells k m)) ≡ M.shown (es ++ (e ∷ [])) m
      entered q = rw (← q) (enters (cell_at cells k (M.full e)) es (before (M.full e) le lt))
