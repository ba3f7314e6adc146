-- A report changes the cell of its own number alone, and there are as many cells as before. Assumes nothing.
use Rattle.std.proofs.Common.{◌≡◌, ℕ, ◌+◌, ◌*◌, ◌<◌, ◌≤◌, List, [], ◌∷◌, ◌++◌, length, get_or, refl, ap, ◌∙◌, arith, length-set, get_or-set_other, get_or-set_same, le-leb}
use borrow.Author.Tests.{lt-leb}
use lib.Seq.{set-get_or}
use Rattle.std.specs.Prelude.{Option, Some, None}
use Rattle.lists.proofs.Cases.{split_le}
use Rattle.ring.specs.Ring.{cells_of_a_place}
use Rattle.window.specs.Number.{sequence_numbers, distance_of}
use Rattle.places.specs.Place.{highest_at, find_of}
use Rattle.place_window.specs.Window.{cell_index, cell_at, updated}
use Rattle.sent_word.specs.Word.{word_reported}
use Rattle.sent_block.specs.Reports.{NumberReport, word_in_window, reported_at, reported_found, reported, all_reported}

-- ---- the word of a cell

module _ (b metric rts word : ℕ) where
  pub past_window : cells_of_a_place ≤ b → word_in_window b metric rts word ≡ word
  unfolding word_in_window
  past_window l = rw (le-leb cells_of_a_place b l)

  pub in_window : b < cells_of_a_place → word_in_window b metric rts word ≡ word_reported metric rts word
  unfolding word_in_window
  in_window l = rw (lt-leb cells_of_a_place b l)

-- ---- one report

module _ (p highest rts : ℕ) (cells : List ℕ) (number metric : ℕ) where
  pub length_reported_at : length (reported_at p highest rts cells number metric) ≡ length cells
  unfolding updated
  length_reported_at = rw length-set

  pub reported_at_other : (i : ℕ) → (i ≡ cell_index p number → ⊥) → get_or (reported_at p highest rts cells number metric) i 0 ≡ get_or cells i 0
  unfolding updated
  reported_at_other i n = get_or-set_other cells (cell_index p number) i _ 0 n

  -- a number outside the window changes nothing
  pub reported_at_past : cells_of_a_place ≤ distance_of highest number → reported_at p highest rts cells number metric ≡ cells
  unfolding updated
  reported_at_past l =
      rw (past_window (distance_of highest number) metric rts (cell_at cells p number) l) (set-get_or cells (cell_index p number) 0)

  pub reported_at_in : distance_of highest number < cells_of_a_place
      → reported_at p highest rts cells number metric ≡ updated (word_reported metric rts) cells p number
  unfolding updated
  reported_at_in l = rw (in_window (distance_of highest number) metric rts (cell_at cells p number) l)

  -- two numbers of the window have cells of their own
  apart : (m : ℕ) → highest < sequence_numbers → number < sequence_numbers → m < sequence_numbers
      → distance_of highest number < cells_of_a_place → distance_of highest m < cells_of_a_place
      → (m ≡ number → ⊥) → cell_index p m ≡ cell_index p number → ⊥
  apart m h l k a b n e = n (omega arith)

  -- so what the window says of every other number stays
  pub reported_at_number : (m : ℕ) → highest < sequence_numbers → number < sequence_numbers → m < sequence_numbers
      → distance_of highest m < cells_of_a_place → (m ≡ number → ⊥)
      → cell_at (reported_at p highest rts cells number metric) p m ≡ cell_at cells p m
  reported_at_number m h l k b n =
      split_le cells_of_a_place (distance_of highest number) (λ past. ap (λ (c : List ℕ). cell_at c p m) (reported_at_past past))
      (λ a. reported_at_other (cell_index p m) (apart m h l k a b n))

module _ (places : List ℕ) (rts : ℕ) where
  module _ (cells : List ℕ) (r : NumberReport) where
    pub reported_held : (p : ℕ) → find_of places r.ssrc ≡ Some p
        → reported places rts cells r ≡ reported_at p (highest_at places p) rts cells r.number r.metric
    unfolding reported
    reported_held p e = rw e

    pub reported_none : find_of places r.ssrc ≡ None → reported places rts cells r ≡ cells
    unfolding reported
    reported_none e = rw e

    pub length_reported : length (reported places rts cells r) ≡ length cells
    unfolding reported
    length_reported = by_place (find_of places r.ssrc)
      where
        by_place : (f : Option ℕ) → length (reported_found f places rts cells r.number r.metric) ≡ length cells
        by_place (Some p) = length_reported_at p (highest_at places p) rts cells r.number r.metric
        by_place None = refl

    -- a cell that is not that of the report's number in the place of its stream
    pub reported_other : (i : ℕ) → ((p : ℕ) → find_of places r.ssrc ≡ Some p → i ≡ cell_index p r.number → ⊥)
        → get_or (reported places rts cells r) i 0 ≡ get_or cells i 0
    unfolding reported
    reported_other i n = by_place (find_of places r.ssrc) refl
      where
        by_place : (f : Option ℕ) → find_of places r.ssrc ≡ f → get_or (reported_found f places rts cells r.number r.metric) i 0 ≡ get_or cells i 0
        by_place (Some p) e = reported_at_other p (highest_at places p) rts cells r.number r.metric i (n p e)
        by_place None e = refl

    -- in numbers: what the window of the report's stream says of any other number stays
    pub reported_number : (p m : ℕ) → find_of places r.ssrc ≡ Some p → r.number < sequence_numbers → m < sequence_numbers
        → distance_of (highest_at places p) m < cells_of_a_place → (m ≡ r.number → ⊥)
        → cell_at (reported places rts cells r) p m ≡ cell_at cells p m
    reported_number p m e l k b n =
        rw (reported_held p e)
        (reported_at_number p (highest_at places p) rts cells r.number r.metric m (omega arith) l k b n)

    -- its own word is as the metric leaves it, where the number is in the window
    pub reported_own : (p : ℕ) → find_of places r.ssrc ≡ Some p → cells_of_a_place * p + cells_of_a_place ≤ length cells
        → distance_of (highest_at places p) r.number < cells_of_a_place
        → cell_at (reported places rts cells r) p r.number ≡ word_reported r.metric rts (cell_at cells p r.number)
    unfolding updated
    reported_own p e room l =
        rw (reported_held p e, reported_at_in p (highest_at places p) rts cells r.number r.metric l)
        (get_or-set_same cells (cell_index p r.number) _ 0 (omega arith))

    pub reported_past : (p : ℕ) → find_of places r.ssrc ≡ Some p → cells_of_a_place ≤ distance_of (highest_at places p) r.number
        → reported places rts cells r ≡ cells
    reported_past p e l = reported_held p e ∙ reported_at_past p (highest_at places p) rts cells r.number r.metric l

  -- ---- reports one after the other

  pub reported_append : (rs qs : List NumberReport) (cells : List ℕ)
      → all_reported places rts cells (rs ++ qs) ≡ all_reported places rts (all_reported places rts cells rs) qs
  unfolding all_reported
  reported_append [] qs cells = refl
  reported_append (r ∷ rs) qs cells = reported_append rs qs (reported places rts cells r)

  pub length_all_reported : (rs : List NumberReport) (cells : List ℕ) → length (all_reported places rts cells rs) ≡ length cells
  unfolding all_reported
  length_all_reported [] cells = refl
  length_all_reported (r ∷ rs) cells = length_all_reported rs (reported places rts cells r) ∙ length_reported cells r
