-- A block whose place is found once makes of the cells what its reports make of them, one after the other.
-- Assumes nothing.
use Rattle.std.proofs.Common.{◌≡◌, ℕ, zero, suc, ◌+◌, ◌-◌, ◌*◌, ◌%◌, ◌<◌, ◌≤◌, List, [], ◌∷◌, sym, refl, ap, ◌∙◌, add-zero, arith}
use native.Mathlib.Nat.{sub-zero}
use Rattle.std.specs.Prelude.{Option, Some, None}
use Rattle.lists.proofs.Cases.{split_le}
use Rattle.octets.specs.Octets.{be16}
use Rattle.ring.specs.Ring.{cells_of_a_place}
use Rattle.window.specs.Number.{sequence_numbers, distance_of}
use Rattle.places.specs.Place.{highest_at, find_of}
use Rattle.place_window.specs.Window.{updated}
use Rattle.packet.specs.Packet.{Block}
use Rattle.packet.specs.Sizes.{most_reports}
use Rattle.reader.specs.Reading.{metrics_at_of}
use Rattle.sent_word.specs.Word.{word_reported}
use Rattle.sent_block.specs.Reports.{NumberReport, reports_from, reported_at, all_reported}
use Rattle.sent_block.specs.Steps.{first_in_window, end_in_window, entered_from, block_taken_at, block_taken}
use Rattle.sent_block.proofs.Reports.{reported_at_past, reported_at_in, reported_held, reported_none}

-- ---- the metrics of a block whose numbers are in the window

-- the highest number is less far above a later number of the block
later_distance : (highest begin j : ℕ) → highest < sequence_numbers → begin < sequence_numbers → j < sequence_numbers
    → distance_of highest ((begin + j) % sequence_numbers) ≡ (distance_of highest begin + sequence_numbers - j) % sequence_numbers
later_distance highest begin j h b l =
    split_le begin highest
    (λ a. rw (once (highest + sequence_numbers - begin) (omega arith) (omega arith))
    (split_le sequence_numbers (begin + j)
    (λ m. rw (once (begin + j) m (omega arith)) (omega arith)) (λ m. rw (none (begin + j) m) (omega arith))))
    (λ a. rw (none (highest + sequence_numbers - begin) (omega arith))
    (split_le sequence_numbers (begin + j)
    (λ m. rw (once (begin + j) m (omega arith)) (omega arith)) (λ m. rw (none (begin + j) m) (omega arith))))
  where
    none : (x : ℕ) → x < sequence_numbers → x % sequence_numbers ≡ x
    none x i = omega arith

    once : (x : ℕ) → sequence_numbers ≤ x → x < 2 * sequence_numbers → x % sequence_numbers ≡ x - sequence_numbers
    once x i k = omega arith

module _ (highest begin n : ℕ) (h : highest < sequence_numbers) (b : begin < sequence_numbers) (few : n ≤ most_reports) where
  abbrev d : ℕ
  d = distance_of highest begin

  abbrev distance : ℕ → ℕ
  distance j = distance_of highest ((begin + j) % sequence_numbers)

  window_before : (j : ℕ) → j < first_in_window d → j < n → cells_of_a_place ≤ distance j
  window_before j f l = rw (later_distance highest begin j h b (omega arith)) (omega arith)

  window_behind : (j : ℕ) → end_in_window d n ≤ j → j < n → cells_of_a_place ≤ distance j
  window_behind j e l = rw (later_distance highest begin j h b (omega arith)) (omega arith)

  window_in : (j : ℕ) → first_in_window d ≤ j → j < end_in_window d n → distance j < cells_of_a_place
  window_in j f e = rw (later_distance highest begin j h b (omega arith)) (omega arith)

-- ---- the numbers of a block one after the other

module _ (s : List ℕ) (p highest rts begin from n : ℕ) (cells : List ℕ) (j : ℕ) where
  number_turn : j < n
      → entered_from p highest rts
      (reported_at p highest rts cells ((begin + j) % sequence_numbers) (be16 s (from + 2 * j))) begin (j + 1)
      (metrics_at_of s (from + 2 * (j + 1)) (n - (j + 1)))
      ≡ entered_from p highest rts cells begin j (metrics_at_of s (from + 2 * j) (n - j))
  unfolding entered_from metrics_at_of
  number_turn l =
      let left : n - j ≡ suc (n - (j + 1)) = omega arith in
      let next : from + 2 * (j + 1) ≡ from + 2 * j + 2 = omega arith in
      rw (left, next)

  numbers_done : n ≤ j → cells ≡ entered_from p highest rts cells begin j (metrics_at_of s (from + 2 * j) (n - j))
  unfolding entered_from metrics_at_of
  numbers_done l = let none : n - j ≡ 0 = omega arith in rw none

  -- a number outside the window changes nothing
  passed_turn : j < n → cells_of_a_place ≤ distance_of highest ((begin + j) % sequence_numbers)
      → entered_from p highest rts cells begin (j + 1) (metrics_at_of s (from + 2 * (j + 1)) (n - (j + 1)))
      ≡ entered_from p highest rts cells begin j (metrics_at_of s (from + 2 * j) (n - j))
  passed_turn l past =
      ap (λ (c : List ℕ). entered_from p highest rts c begin (j + 1) (metrics_at_of s (from + 2 * (j + 1)) (n - (j + 1))))
      (sym (reported_at_past p highest rts cells ((begin + j) % sequence_numbers) (be16 s (from + 2 * j)) past))
      ∙ number_turn l

module _ (s : List ℕ) (p highest rts begin from n : ℕ) (cells : List ℕ) where
  abbrev rest : ℕ → List ℕ
  rest j = entered_from p highest rts cells begin j (metrics_at_of s (from + 2 * j) (n - j))

  -- nor do k of them, starting with number j of the block
  passed : (j k : ℕ)
      → ((i : ℕ) → j ≤ i → i < j + k → i < n → cells_of_a_place ≤ distance_of highest ((begin + i) % sequence_numbers))
      → rest (j + k) ≡ rest j
  passed j zero past = rw (add-zero)
  passed j (suc k) past =
      let last : j + suc k ≡ j + k + 1 = omega arith in
      rw last
      (split_le n (j + k)
      (λ l. sym (numbers_done s p highest rts begin from n cells (j + k + 1) (omega arith)) ∙ numbers_done s p highest rts begin from n cells (j + k) l)
      (λ l. passed_turn s p highest rts begin from n cells (j + k) l (past (j + k) (omega arith) (omega arith) l)))
      ∙ passed j k (λ i a b. past i a (omega arith))

  module _ (h : highest < sequence_numbers) (b : begin < sequence_numbers) (few : n ≤ most_reports) where
    abbrev away : ℕ
    away = distance_of highest begin

    pub window_start : rest (first_in_window away) ≡ entered_from p highest rts cells begin 0 (metrics_at_of s from n)
    window_start =
        let first : first_in_window away ≡ 0 + first_in_window away = omega arith in
        ap rest first ∙ passed 0 (first_in_window away) (λ i a f. window_before highest begin n h b few i (omega arith))
        ∙ rw (sub-zero, add-zero)

    pub window_turn : (j : ℕ) → first_in_window away ≤ j → j < end_in_window away n
        → entered_from p highest rts
        (updated (word_reported (be16 s (from + 2 * j)) rts) cells p ((begin + j) % sequence_numbers)) begin (j + 1)
        (metrics_at_of s (from + 2 * (j + 1)) (n - (j + 1)))
        ≡ rest j
    window_turn j f e =
        ap (λ (c : List ℕ). entered_from p highest rts c begin (j + 1) (metrics_at_of s (from + 2 * (j + 1)) (n - (j + 1))))
        (sym (reported_at_in p highest rts cells ((begin + j) % sequence_numbers) (be16 s (from + 2 * j)) (window_in highest begin n h b few j f e)))
        ∙ number_turn s p highest rts begin from n cells j (omega arith)

    pub window_end : (j : ℕ) → end_in_window away n ≤ j → cells ≡ rest j
    window_end j e =
        numbers_done s p highest rts begin from n cells (j + (n - j)) (omega arith)
        ∙ passed j (n - j) (λ i a l. window_behind highest begin n h b few i (omega arith))

-- ---- the reports of a block

module _ (places : List ℕ) (rts : ℕ) where
  module _ (ssrc begin : ℕ) where
    abbrev first : ℕ → ℕ → NumberReport
    first j m = record { ssrc = ssrc; number = (begin + j) % sequence_numbers; metric = m }

    entered_held : (p : ℕ) → find_of places ssrc ≡ Some p → (ms : List ℕ) (j : ℕ) (cells : List ℕ)
        → all_reported places rts cells (reports_from ssrc begin j ms) ≡ entered_from p (highest_at places p) rts cells begin j ms
    unfolding all_reported reports_from entered_from
    entered_held p f [] j cells = refl
    entered_held p f (m ∷ ms) j cells =
        ap (λ (c : List ℕ). all_reported places rts c (reports_from ssrc begin (j + 1) ms)) (reported_held places rts cells (first j m) p f)
        ∙ entered_held p f ms (j + 1) (reported_at p (highest_at places p) rts cells ((begin + j) % sequence_numbers) m)

    passed_over : find_of places ssrc ≡ None → (ms : List ℕ) (j : ℕ) (cells : List ℕ)
        → all_reported places rts cells (reports_from ssrc begin j ms) ≡ cells
    unfolding all_reported reports_from
    passed_over f [] j cells = refl
    passed_over f (m ∷ ms) j cells =
        ap (λ (c : List ℕ). all_reported places rts c (reports_from ssrc begin (j + 1) ms)) (reported_none places rts cells (first j m) f)
        ∙ passed_over f ms (j + 1) cells

  module _ (cells : List ℕ) (b : Block) where
    pub block_reported : all_reported places rts cells (reports_from b.ssrc b.begin 0 b.metrics) ≡ block_taken places rts cells b
    unfolding block_taken
    block_reported = by_place (find_of places b.ssrc) refl
      where
        by_place : (f : Option ℕ) → find_of places b.ssrc ≡ f
            → all_reported places rts cells (reports_from b.ssrc b.begin 0 b.metrics) ≡ block_taken_at f places rts cells b
        by_place (Some p) e = entered_held b.ssrc b.begin p e b.metrics 0 cells
        by_place None e = passed_over b.ssrc b.begin e b.metrics 0 cells
