-- The numbers of a block that are in the window are entered as two runs of cells. Assumes nothing.
use Rattle.std.proofs.Common.{◌≡◌, ℕ, zero, suc, ◌+◌, ◌-◌, ◌*◌, ◌%◌, ◌<◌, ◌≤◌, List, get_or, set, sym, refl, ap, ◌∙◌, add-zero, arith}
use native.Mathlib.Nat.{sub-zero}
use Rattle.octets.specs.Octets.{be16}
use Rattle.ring.specs.Ring.{cells_of_a_place}
use Rattle.window.specs.Number.{sequence_numbers, distance_of}
use Rattle.place_window.specs.Window.{cell_index, updated}
use Rattle.packet.specs.Sizes.{most_reports}
use Rattle.reader.specs.Reading.{metrics_at_of}
use Rattle.sent_word.specs.Word.{word_reported}
use Rattle.sent_block.specs.Steps.{first_in_window, end_in_window, entered_from, run_entered}
use Rattle.sent_block.proofs.Steps.{window_start, window_turn, window_end}

-- ---- a turn of the loop over a run

pub run_start : (s : List ℕ) (rts at from n : ℕ) (cells : List ℕ)
    → run_entered rts cells (at + 0) (metrics_at_of s (from + 2 * 0) (n - 0)) ≡ run_entered rts cells at (metrics_at_of s from n)
run_start s rts at from n cells = rw (sub-zero, add-zero at, add-zero from)

module _ (s : List ℕ) (rts at from n : ℕ) (cells : List ℕ) (i : ℕ) where
  pub run_turn : i < n
      → run_entered rts (set cells (at + i) (word_reported (be16 s (from + 2 * i)) rts (get_or cells (at + i) 0))) (at + (i + 1))
      (metrics_at_of s (from + 2 * (i + 1)) (n - (i + 1)))
      ≡ run_entered rts cells (at + i) (metrics_at_of s (from + 2 * i) (n - i))
  unfolding run_entered metrics_at_of
  run_turn l =
      let left : n - i ≡ suc (n - (i + 1)) = omega arith in
      let next : from + 2 * (i + 1) ≡ from + 2 * i + 2 = omega arith in
      let cell : at + (i + 1) ≡ at + i + 1 = omega arith in
      rw (left, next, cell)

  pub run_done : n ≤ i → cells ≡ run_entered rts cells (at + i) (metrics_at_of s (from + 2 * i) (n - i))
  unfolding run_entered metrics_at_of
  run_done l = let none : n - i ≡ 0 = omega arith in rw none

pub ruleset run_steps = (run_start, run_turn, run_done)

-- ---- where count numbers of the window are cut at the end of the ring

pub same_slot : (x : ℕ) → x % sequence_numbers % cells_of_a_place ≡ x % cells_of_a_place
same_slot x = omega arith

side_slot : (x i : ℕ) → x % cells_of_a_place + i < cells_of_a_place → (x + i) % cells_of_a_place ≡ x % cells_of_a_place + i
side_slot x i l = omega arith

-- k numbers up to the end of the ring, and i more
round_slot : (x k i : ℕ) → x % cells_of_a_place + k ≡ cells_of_a_place → i < cells_of_a_place → (x + k + i) % cells_of_a_place ≡ i
round_slot x k i e l = omega arith

-- k of them come before the end
pub record Cut (slot count k : ℕ) : Type 0 where
  pub part : k ≤ count
  pub room : slot + k ≤ cells_of_a_place
  pub full : k < count → slot + k ≡ cells_of_a_place

module _ (p begin f count k : ℕ) (few : count ≤ cells_of_a_place) (cut : Cut ((begin + f) % cells_of_a_place) count k) where
  abbrev cell_of : ℕ → ℕ
  cell_of j = cell_index p ((begin + j) % sequence_numbers)

  before_the_end : (i : ℕ) → i < k → cell_of (f + i) ≡ cells_of_a_place * p + (begin + f) % cells_of_a_place + i
  before_the_end i l =
      let e : begin + (f + i) ≡ begin + f + i = omega arith in
      let r = cut.room in
      rw (e, same_slot (begin + f + i), side_slot (begin + f) i (omega arith)) (omega arith)

  from_the_start : (i : ℕ) → i < count - k → cell_of (f + k + i) ≡ cells_of_a_place * p + i
  from_the_start i l =
      let e : begin + (f + k + i) ≡ begin + f + k + i = omega arith in
      let m : k < count = omega arith in
      rw (e, same_slot (begin + f + k + i), round_slot (begin + f) k i (cut.full m) (omega arith)) refl

few_cells : (d n f count : ℕ) → f ≡ first_in_window d → f + count ≡ end_in_window d n → count ≤ cells_of_a_place
few_cells d n f count a e = omega arith

no_less : {a c : ℕ} → a ≡ c → a ≤ c
no_less e = omega arith

no_less_more : {a c : ℕ} (k : ℕ) → a ≡ c → a ≤ c + k
no_less_more k e = omega arith

sum : (f count k : ℕ) → k ≤ count → f + k + (count - k) ≡ f + count
sum f count k l = omega arith

part_of : {e : ℕ} (f count k : ℕ) → k ≤ count → f + count ≡ e → f + k ≤ e
part_of f count k l z = omega arith

twice : (from f k : ℕ) → from + 2 * f + 2 * k ≡ from + 2 * (f + k)
twice from f k = omega arith

-- ---- numbers of the window whose cells lie side by side

module _ (s : List ℕ) (p highest rts begin from n : ℕ)
    (h : highest < sequence_numbers) (b : begin < sequence_numbers) (few : n ≤ most_reports) where
  abbrev away : ℕ
  away = distance_of highest begin

  abbrev number : ℕ → ℕ
  number j = (begin + j) % sequence_numbers

  abbrev rest : List ℕ → ℕ → List ℕ
  rest cells j = entered_from p highest rts cells begin j (metrics_at_of s (from + 2 * j) (n - j))

  -- k of them, starting with number j of the block, are one run
  one_run : (k j at : ℕ) (cells : List ℕ) → first_in_window away ≤ j → j + k ≤ end_in_window away n
      → ((i : ℕ) → i < k → cell_index p (number (j + i)) ≡ at + i)
      → rest (run_entered rts cells at (metrics_at_of s (from + 2 * j) k)) (j + k) ≡ rest cells j
  unfolding run_entered metrics_at_of updated
  one_run zero j at cells f e side = rw add-zero
  one_run (suc k) j at cells f e side =
      let here : cell_index p (number j) ≡ at = simp add-zero at (side 0 (omega arith)) in
      let next : from + 2 * j + 2 ≡ from + 2 * (j + 1) = omega arith in
      let last : j + suc k ≡ j + 1 + k = omega arith in
      let later : (i : ℕ) → i < k → cell_index p (number (j + 1 + i)) ≡ at + 1 + i = (λ i l.
      let step : j + 1 + i ≡ j + suc i = omega arith in
      let cell : at + 1 + i ≡ at + suc i = omega arith in
      rw (step, cell) (side (suc i) (omega arith))) in
      let after = set cells at (word_reported (be16 s (from + 2 * j)) rts (get_or cells at 0)) in
      rw (next, last)
      (one_run k (j + 1) (at + 1) after (omega arith) (omega arith) later
      ∙ rw here at (window_turn s p highest rts begin from n cells h b few j f (omega arith)))

  -- all of them, the first of which is number f of the block: up to the end of the ring, and from its start
  module _ (f count k : ℕ) (first : f ≡ first_in_window away) (last : f + count ≡ end_in_window away n)
      (cut : Cut ((begin + f) % cells_of_a_place) count k) where
    abbrev all_of : f + k + (count - k) ≡ end_in_window away n
    all_of = sum f count k cut.part ∙ last

    pub two_runs : (cells : List ℕ)
        → run_entered rts
        (run_entered rts cells (cells_of_a_place * p + (begin + f) % cells_of_a_place) (metrics_at_of s (from + 2 * f) k))
        (cells_of_a_place * p) (metrics_at_of s (from + 2 * f + 2 * k) (count - k))
        ≡ entered_from p highest rts cells begin 0 (metrics_at_of s from n)
    two_runs cells =
        let few-of = few_cells away n f count first last in
        rw (twice from f k)
        (window_end s p highest rts begin from n _ h b few (f + k + (count - k)) (no_less (sym all_of))
        ∙ one_run (count - k) (f + k) (cells_of_a_place * p) _ (no_less_more k (sym first)) (no_less all_of)
        (from_the_start p begin f count k few-of cut)
        ∙ one_run k f (cells_of_a_place * p + (begin + f) % cells_of_a_place) cells (no_less (sym first)) (part_of f count k cut.part last)
        (before_the_end p begin f count k few-of cut)
        ∙ ap (λ (j : ℕ). entered_from p highest rts cells begin j (metrics_at_of s (from + 2 * j) (n - j))) first
        ∙ window_start s p highest rts begin from n cells h b few)
