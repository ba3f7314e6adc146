-- The oldest number of a window, and each refusal, exactly when the rules give it, for a store of
-- any lent content. Assumes nothing.
use Prim.Native.Nat.{ℕ, ◌+◌, ◌-◌, ◌<◌}
use mathlib.Core.Path.{◌≡◌, refl, sym, ap, ◌∙◌}
use mathlib.Core.Bool.{true, false, false≢true, true≢false}
use mathlib.Core.List.{List}
use native.Mathlib.Omega.{arith}
use native.Mathlib.Decide.{dec_lt}
use lib.ListN.{length}
use Rattle.lists.specs.First.{first_from}
use Rattle.std.specs.Prelude.{Option, Result, Some, None, Ok}
use Rattle.metric.specs.declared.Arrived.{Arrived}
use Rattle.refusal.specs.declared.Refusal.{Refusal}
use Rattle.places.specs.declared.Stream.{Stream}
use Rattle.lists.proofs.Cases.{split_le}
use Rattle.lists.proofs.First.{first_below, first_true, first_false, first_before, first_at, first_nothing}
use Rattle.ring.specs.Ring.{cells_of_a_place}
use Rattle.window.specs.Number.{distance_of, sequence_numbers}
use Rattle.places.specs.Place.{place_at}
use Rattle.places.specs.Shape.{Shaped}
use Rattle.places.proofs.Shape.{right, wrong, Shape, shaped_is, misshapen_is, shape_of}
use Rattle.places.proofs.Held.{past_free}
use Rattle.place_window.specs.Window.{cell_at}
use Rattle.cells.specs.Cell.{read_cell}
use Rattle.oldest.specs.Oldest.{window_number, is_filled, has_arrived, number_found, oldest_in, oldest_at, oldest_of}
use Rattle.writer_laws.specs.Refused.{InWindow}
use Rattle.oldest_laws.specs.Given.{NotArrived, OldestIs, arrived, none, OldestGiven}

-- ---- a cell is filled or empty
filled_is : (c : Option Arrived) → is_filled c ≡ true → (mark : ℕ) × ((time : Option ℕ) × (c ≡ Some (record { mark = mark; time = time })))
filled_is None t = absurd (false≢true t)
filled_is (Some a) t = (a.mark, (a.time, refl))

empty_is : (c : Option Arrived) → is_filled c ≡ false → c ≡ None
empty_is None t = refl
empty_is (Some a) t = absurd (true≢false t)

-- the number b behind highest is b behind it
pub distance_back : (highest b : ℕ) → highest < sequence_numbers → b < sequence_numbers → distance_of highest (distance_of highest b) ≡ b
distance_back highest b h l =
    split_le b highest
    (λ g. let e : distance_of highest b ≡ highest - b = omega arith in rw e (omega arith))
    (λ g. let e : distance_of highest b ≡ highest + sequence_numbers - b = omega arith in rw e (omega arith))

-- ---- the oldest number of a window
module _ (cells : List ℕ) (p highest : ℕ) where
  -- the number b behind highest is number 2,047 - b of the window
  behind : (b : ℕ) → b < cells_of_a_place → window_number highest (cells_of_a_place - 1 - b) ≡ distance_of highest b
  behind b l = let e : cells_of_a_place - 1 - (cells_of_a_place - 1 - b) ≡ b = omega arith in rw e

  cell_behind : (b : ℕ) → b < cells_of_a_place
      → has_arrived cells p highest (cells_of_a_place - 1 - b) ≡ is_filled (read_cell (cell_at cells p (distance_of highest b)))
  cell_behind b l = ap (λ (n : ℕ). is_filled (read_cell (cell_at cells p n))) (behind b l)

  not_arrived : (b : ℕ) → b < cells_of_a_place → has_arrived cells p highest (cells_of_a_place - 1 - b) ≡ false → NotArrived cells p highest b
  not_arrived b l t = empty_is _ (sym (cell_behind b l) ∙ t)

  by_search : (f : Option ℕ) → first_from (has_arrived cells p highest) 0 cells_of_a_place ≡ f → OldestIs cells p highest (number_found highest f)
  by_search (Some i) e =
      let l = first_below (has_arrived cells p highest) cells_of_a_place 0 i e in
      let f = filled_is _ (first_true (has_arrived cells p highest) cells_of_a_place 0 i e) in
      arrived (cells_of_a_place - 1 - i) f.0 f.1.0 (omega arith) f.1.1
      (λ c a b. not_arrived c b (first_before (has_arrived cells p highest) cells_of_a_place 0 i (cells_of_a_place - 1 - c) e (omega arith) (omega arith)))
  by_search None e =
      none (λ c l. not_arrived c l (first_false (has_arrived cells p highest) cells_of_a_place 0 (cells_of_a_place - 1 - c) e (omega arith) (omega arith)))

  pub oldest_is : OldestIs cells p highest (oldest_in cells p highest)
  unfolding oldest_in
  oldest_is = by_search (first_from (has_arrived cells p highest) 0 cells_of_a_place) refl

  -- a number of the window that did not arrive, by its place in the window
  not_filled : (i : ℕ) → i < cells_of_a_place → NotArrived cells p highest (cells_of_a_place - 1 - i) → has_arrived cells p highest i ≡ false
  not_filled i l e = ap is_filled e

  -- and no other number is
  pub oldest_only : (n : ℕ) → OldestIs cells p highest n → n ≡ oldest_in cells p highest
  unfolding oldest_in
  oldest_only n (arrived b mark time l f before) =
      let found : first_from (has_arrived cells p highest) 0 cells_of_a_place ≡ Some (cells_of_a_place - 1 - b) =
      first_at (has_arrived cells p highest) cells_of_a_place 0 (cells_of_a_place - 1 - b) (omega arith) (omega arith) (cell_behind b l ∙ ap is_filled f)
      (λ i a g. not_filled i (omega arith) (before (cells_of_a_place - 1 - i) (omega arith) (omega arith))) in
      rw found (sym (behind b l))
  oldest_only n (none before) =
      let found : first_from (has_arrived cells p highest) 0 cells_of_a_place ≡ None =
      first_nothing (has_arrived cells p highest) cells_of_a_place (λ i l. not_filled i l (before (cells_of_a_place - 1 - i) (omega arith))) in
      rw found

-- the range that starts with the oldest number and ends with highest lies in the window: the
-- writer does not refuse it with 9
pub oldest_range : (cells : List ℕ) (p highest n : ℕ) → highest < sequence_numbers → OldestIs cells p highest n → InWindow highest n (distance_of highest n + 1)
oldest_range cells p highest n h o = record { some = λ g. (near n o, omega arith); none = λ e. absurd (omega arith) }
  where
    near : (n : ℕ) → OldestIs cells p highest n → distance_of highest n < cells_of_a_place
    near n (arrived b mark time l f before) = rw (distance_back highest b h (omega arith)) l
    near n (none before) = omega arith

-- ---- the call
module _ (places cells : List ℕ) (k : ℕ) where
  held_given : Shaped places cells → (h : Option Stream) → place_at places k ≡ h → OldestGiven places cells k (oldest_at cells k h)
  held_given s (Some s') e = OldestGiven.held s s'.ssrc s'.highest (oldest_in cells k s'.highest) e (oldest_is cells k s'.highest)
  held_given s None e =
      elim (dec_lt k (length places)) [
        | yes l ↦ OldestGiven.is_free s l e
        | no l ↦ OldestGiven.not_there s (omega arith)
      ]

  shape_given : Shape places cells → OldestGiven places cells k (oldest_of places cells k)
  shape_given (wrong m) = rw (misshapen_is places cells m) (OldestGiven.bad_store m)
  shape_given (right s) = rw (shaped_is places cells s) (held_given s (place_at places k) refl)

  -- the answer is given for the reason that the rules name
  pub oldest_given : OldestGiven places cells k (oldest_of places cells k)
  oldest_given = shape_given (shape_of places cells)

  -- and no other answer is given for a reason of the rules
  pub answer_only : (a : Result ℕ Refusal) → OldestGiven places cells k a → a ≡ oldest_of places cells k
  answer_only a (OldestGiven.bad_store m) = rw (misshapen_is places cells m)
  answer_only a (OldestGiven.not_there s l) = rw (shaped_is places cells s, past_free places k l)
  answer_only a (OldestGiven.is_free s l e) = rw (shaped_is places cells s, e)
  answer_only a (OldestGiven.held s x highest n e o) = rw (shaped_is places cells s, e) (ap Ok (oldest_only cells k highest n o))
