-- The search of a window, in the two parts in which its cells stand in the ring. Assumes nothing.
use Prim.Native.Nat.{ℕ, ◌+◌, ◌-◌, ◌*◌, ◌%◌, ◌<◌, ◌≤◌}
use mathlib.Core.Path.{◌≡◌, sym, ap, ◌∙◌}
use mathlib.Core.Bool.{false}
use mathlib.Core.List.{List}
use native.Mathlib.Omega.{arith}
use lib.ListN.{get_or}
use Rattle.lists.specs.First.{first_from}
use Rattle.lists.proofs.Cases.{split_le}
use Rattle.lists.proofs.First.{first_below, first_true, first_false, first_before, first_at, first_nothing}
use Rattle.ring.specs.Ring.{cells_of_a_place}
use Rattle.window.specs.Number.{sequence_numbers}
use Rattle.cells.specs.Cell.{read_cell}
use Rattle.oldest.specs.Oldest.{window_number, is_filled, has_arrived, number_found, oldest_in}
use Rattle.oldest.specs.Steps.{filled_at, first_filled}
use Rattle.std.specs.Prelude.{Some, None}

-- modulo 65536 and then modulo 2048 is modulo 2048
low_slot : (n : ℕ) → n % sequence_numbers % cells_of_a_place ≡ n % cells_of_a_place
low_slot n = omega arith

-- the slot of the window's lowest number follows that of highest
window_slot : (highest i : ℕ) → i < cells_of_a_place → window_number highest i % cells_of_a_place ≡ (highest + 1 + i) % cells_of_a_place
window_slot highest i l = low_slot (highest + sequence_numbers - (cells_of_a_place - 1 - i)) ∙ omega arith

-- how many of the window's numbers stand at the front of the ring, and how many behind them
abbrev pub newer : ℕ → ℕ
newer highest = (highest + 1) % cells_of_a_place

abbrev pub older : ℕ → ℕ
older highest = cells_of_a_place - newer highest

module _ (cells : List ℕ) (p highest : ℕ) where
  abbrev base : ℕ
  base = cells_of_a_place * p

  at_slot : (i s : ℕ) → window_number highest i % cells_of_a_place ≡ s → has_arrived cells p highest i ≡ is_filled (read_cell (get_or cells (base + s) 0))
  at_slot i s e = ap (λ (m : ℕ). is_filled (read_cell (get_or cells (base + m) 0))) e

  arrived_older : (i : ℕ) → i < older highest → has_arrived cells p highest i ≡ filled_at cells (base + newer highest) i
  arrived_older i l =
      let e : (highest + 1 + i) % cells_of_a_place ≡ newer highest + i = omega arith in
      let g : base + newer highest + i ≡ base + (newer highest + i) = omega arith in
      rw g (at_slot i (newer highest + i) (window_slot highest i (omega arith) ∙ e))

  arrived_newer : (i : ℕ) → i < newer highest → has_arrived cells p highest (older highest + i) ≡ filled_at cells base i
  arrived_newer i l =
      let e : (highest + 1 + (older highest + i)) % cells_of_a_place ≡ i = omega arith in
      at_slot (older highest + i) i (window_slot highest (older highest + i) (omega arith) ∙ e)

  -- found among the older ones
  pub found_older : (i : ℕ) → first_filled cells (base + newer highest) (older highest) ≡ Some i → window_number highest i ≡ oldest_in cells p highest
  unfolding oldest_in
  found_older i f =
      let l = first_below (filled_at cells (base + newer highest)) (older highest) 0 i f in
      let e : first_from (has_arrived cells p highest) 0 cells_of_a_place ≡ Some i =
      first_at (has_arrived cells p highest) cells_of_a_place 0 i (omega arith) (omega arith)
      (arrived_older i (omega arith) ∙ first_true (filled_at cells (base + newer highest)) (older highest) 0 i f)
      (λ k b a. arrived_older k (omega arith) ∙ first_before (filled_at cells (base + newer highest)) (older highest) 0 i k f a b) in
      sym (ap (number_found highest) e)

  module _ (none : first_filled cells (base + newer highest) (older highest) ≡ None) where
    none_older : (k : ℕ) → k < older highest → has_arrived cells p highest k ≡ false
    none_older k l = arrived_older k l ∙ first_false (filled_at cells (base + newer highest)) (older highest) 0 k none (omega arith) (omega arith)

    -- number k of the window, where none of the older ones arrived
    not_yet : (k n : ℕ) → k < older highest + n → n ≤ newer highest → ((i : ℕ) → i < n → filled_at cells base i ≡ false) → has_arrived cells p highest k ≡ false
    not_yet k n l few h =
        split_le (older highest) k
        (λ g. let e : k ≡ older highest + (k - older highest) = omega arith in
        ap (has_arrived cells p highest) e ∙ arrived_newer (k - older highest) (omega arith) ∙ h (k - older highest) (omega arith))
        (λ g. none_older k g)

    -- found among the newer ones
    pub found_newer : (i : ℕ) → first_filled cells base (newer highest) ≡ Some i → window_number highest (older highest + i) ≡ oldest_in cells p highest
    unfolding oldest_in
    found_newer i f =
        let l = first_below (filled_at cells base) (newer highest) 0 i f in
        let e : first_from (has_arrived cells p highest) 0 cells_of_a_place ≡ Some (older highest + i) =
        first_at (has_arrived cells p highest) cells_of_a_place 0 (older highest + i) (omega arith) (omega arith)
        (arrived_newer i (omega arith) ∙ first_true (filled_at cells base) (newer highest) 0 i f)
        (λ k b a. not_yet k i b (omega arith) (λ j g. first_before (filled_at cells base) (newer highest) 0 i j f (omega arith) g)) in
        sym (ap (number_found highest) e)

    -- none arrived
    pub found_none : first_filled cells base (newer highest) ≡ None → highest ≡ oldest_in cells p highest
    unfolding oldest_in
    found_none f =
        let e : first_from (has_arrived cells p highest) 0 cells_of_a_place ≡ None =
        first_nothing (has_arrived cells p highest) cells_of_a_place
        (λ k l. not_yet k (newer highest) (omega arith) (omega arith) (λ j g. first_false (filled_at cells base) (newer highest) 0 j f (omega arith) (omega arith))) in
        sym (ap (number_found highest) e)
