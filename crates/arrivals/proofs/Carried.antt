-- What a decision makes of the store is what the rules say of the arrival. Assumes nothing.
use Prim.Native.Nat.{ℕ}
use mathlib.Core.Path.{◌≡◌, refl, sym, ap, ◌∙◌}
use mathlib.Core.Bool.{Bool, true, false, cond}
use mathlib.Core.List.{List}
use native.Mathlib.Omega.{arith}
use lib.Dec.{ltb}
use lib.ListN.{set}
use Rattle.std.specs.Prelude.{Option, Result, Some, None, Ok, Err}
use Rattle.refusal.specs.declared.Refusal.{Refusal}
use Rattle.admission.specs.declared.Entry.{Entry}
use Rattle.metric.specs.declared.Arrived.{Arrived}
use Rattle.metric.specs.Metric.{congested}
use Rattle.ring.specs.Ring.{cells_of_a_place}
use Rattle.window.specs.Number.{move_of}
use Rattle.window.specs.declared.Move.{Move}
use Rattle.places.specs.Place.{highest_at, find_of, free_of}
use Rattle.places.specs.Shape.{shaped, Shaped, Ready}
use Rattle.places.specs.After.{StoreAfter, store_after}
use Rattle.places.proofs.Shape.{is_shaped, ready_found, ready_free}
use Rattle.place_window.specs.Window.{cell_at, cell_index, updated, continued, started_at}
use Rattle.place_window.proofs.Moving.{continued_by}
use Rattle.place_window.proofs.Opening.{moved_opened, continued_ahead}
use Rattle.cells.specs.Cell.{read_cell, filled_word, word_after}
use Rattle.cells.proofs.Words.{after_empty, after_read_empty, after_read_filled}
use Rattle.admission.specs.Kind.{kind_at}
use Rattle.admission.specs.Decision.{decided_by, decided_later, decided_new, decided_at, decided, arrival_answer}
use Rattle.admission.specs.declared.ArrivalKind.{ArrivalKind}
use Rattle.admission.proofs.KindOf.{kind_new, kind_ahead, kind_within}
use Rattle.arrivals.specs.Arrivals.{arrival_refused, arrived_at, arrived}
use Rattle.arrivals.specs.Steps.{places_by, cells_by}
use Rattle.refusal.specs.declared.Refusal.TheVariants.{BadMark}
use Rattle.window.specs.declared.Move.TheVariants as move
use Rattle.admission.specs.declared.ArrivalKind.TheVariants as kind

module _ (places cells : List ℕ) (ssrc number mark : ℕ) (time : Option ℕ) where
  -- the answer to an arrival of which this was decided, and the store after it
  abbrev pub After : Result Entry Refusal → StoreAfter (Result ArrivalKind Refusal)
  After d = store_after (arrival_answer d) (places_by places ssrc number d) (cells_by cells number mark (filled_word mark time) d)

  -- ---- a later arrival of a stream that place p holds
  module _ (p : ℕ) (ready : Ready places cells p) where
    abbrev Continued : Result ArrivalKind Refusal → StoreAfter (Result ArrivalKind Refusal)
    Continued accepted = continued accepted Err (word_after mark time) places cells p ssrc number

    -- an arrival of a kind that makes the cell of its number this word, and changes nothing else
    abbrev Entered : ArrivalKind → ℕ → StoreAfter (Result ArrivalKind Refusal)
    Entered k word = store_after (Ok k) places (set cells (cell_index p number) word)

    within_is : (b : ℕ) → move_of (highest_at places p) number ≡ move.Within b → (c : Option Arrived) → read_cell (cell_at cells p number) ≡ c
        → After (decided_by p (move.Within b) c) ≡ Continued (Ok (kind_at (Some p) places cells number))
    unfolding updated
    within_is b e None r =
        rw (kind_within places cells p number b e, r)
        (ap (Entered kind.Late) (sym (after_read_empty (cell_at cells p number) mark time r))
        ∙ continued_by _ _ _ places cells p ssrc number (move.Within b) e)
    within_is b e (Some a) r =
        rw (kind_within places cells p number b e, r)
        (ap (Entered kind.Copy) (sym (after_read_filled (cell_at cells p number) mark time a.mark a.time r))
        ∙ continued_by _ _ _ places cells p ssrc number (move.Within b) e)

    later_is : After (decided_later places cells p number) ≡ Continued (Ok (kind_at (Some p) places cells number))
    unfolding decided_later
    later_is = by_move (move_of (highest_at places p) number) refl
      where
        by_move : (m : Move) → move_of (highest_at places p) number ≡ m
            → After (decided_by p m (read_cell (cell_at cells p number))) ≡ Continued (Ok (kind_at (Some p) places cells number))
        by_move (move.Ahead f) e =
            rw (kind_ahead places cells p number f e)
            (continued_ahead _ _ _ _ (after_empty 0 mark time (omega arith)) places cells p ssrc number ready f e)
        by_move (move.Within b) e = within_is b e (read_cell (cell_at cells p number)) refl
        by_move move.TooOld e = continued_by _ _ _ places cells p ssrc number move.TooOld e

  -- ---- an arrival
  module _ (s : Shaped places cells) where
    new_is : (o : Option ℕ) → free_of places ≡ o
        → After (decided_new o) ≡ started_at (Ok (kind_at None places cells number)) Err (word_after mark time) o places cells ssrc number
    new_is (Some p) e =
        rw (kind_new places cells number)
        (moved_opened _ _ (word_after mark time) (filled_word mark time) (after_empty 0 mark time (omega arith)) places cells p ssrc number
        (ready_free places cells p s e) cells_of_a_place (omega arith) (omega arith))
    new_is None e = refl

    found_is : (f : Option ℕ) → find_of places ssrc ≡ f → After (decided_at f places cells number) ≡ arrived_at f places cells ssrc number mark time
    found_is (Some p) e = later_is p (ready_found places cells ssrc p s e)
    found_is None e = new_is (free_of places) refl

  -- where the decision is carried out, it is the arrival of the rules
  pub carried : After (decided places cells ssrc number mark) ≡ arrived places cells ssrc number mark time
  unfolding decided
  carried = by_shape (shaped places cells) refl
    where
      by_shape : (b : Bool) → shaped places cells ≡ b
          → After (decided places cells ssrc number mark) ≡ arrived places cells ssrc number mark time
      by_shape false e = rw e
      by_shape true e = rw e (by_mark (ltb congested mark))
        where
          by_mark : (m : Bool)
              → After (cond m (Err BadMark) (decided_at (find_of places ssrc) places cells number))
              ≡ cond m (arrival_refused BadMark places cells) (arrived_at (find_of places ssrc) places cells ssrc number mark time)
          by_mark true = refl
          by_mark false = found_is (is_shaped places cells e) (find_of places ssrc) refl
