-- Asking for a status gives each answer exactly when the rules do, for a store of any lent content.
-- Assumes nothing.
use Prim.Native.Nat.{ℕ, ◌<◌}
use mathlib.Core.Logic.{inl, inr}
use mathlib.Core.Path.{◌≡◌, refl}
use mathlib.Core.List.{List}
use native.Mathlib.Omega.{arith}
use Rattle.std.specs.Prelude.{Option, Result, Some, None, Err}
use Rattle.sent_word.specs.declared.Status.{Status}
use Rattle.lists.proofs.Cases.{never, split_le}
use Rattle.refusal.specs.Numbers.{number_of}
use Rattle.refusal.specs.declared.Refusal.{Refusal}
use Rattle.ring.specs.Ring.{cells_of_a_place}
use Rattle.window.specs.Number.{distance_of}
use Rattle.places.specs.Place.{highest_at, find_of}
use Rattle.places.specs.Shape.{Shaped}
use Rattle.places.specs.Held.{HeldAt}
use Rattle.places.proofs.Shape.{right, wrong, Shape, shaped_is, misshapen_is, shape_of}
use Rattle.places.proofs.Held.{found_held, held_found, unheld_lost, lost_unheld}
use Rattle.place_window.specs.Window.{cell_at}
use Rattle.packet_laws.specs.Refused.{OneOf}
use Rattle.sent_word.specs.Word.{read_word_of}
use Rattle.sent_status.specs.Status.{answer_of, status_at, asked_at, status_asked}
use Rattle.sent_status.proofs.Calls.{status_past, status_within}
use Rattle.sent_laws.specs.Given.{StatusGiven, status_numbers}
use Rattle.sent_laws.proofs.Numbers.{same_number}
use Rattle.refusal.specs.declared.Refusal.TheVariants.{BadStore, NotHeld, NotRegistered}

module _ (places cells : List ℕ) (ssrc number : ℕ) where
  -- of a stream that is held, the answer goes by how far the number is behind its highest one
  held_status_lem : Shaped places cells → (p high : ℕ) → HeldAt places ssrc p high
      → status_asked places cells ssrc number ≡ status_at cells p number (distance_of high number)
  held_status_lem s p high K = let k = held_found places ssrc p high K in rw (shaped_is places cells s, k.0, k.1)

  -- no other answer is given for a reason of the rules
  pub status_only : (a : Result Status Refusal) → StatusGiven places cells ssrc number a → a ≡ status_asked places cells ssrc number
  status_only a (StatusGiven.bad_store m) = rw (misshapen_is places cells m)
  status_only a (StatusGiven.not_held s n) = rw (shaped_is places cells s, unheld_lost places ssrc n)
  status_only a (StatusGiven.outside s p high K l) =
      rw (held_status_lem s p high K, status_past cells p number (distance_of high number) (omega arith))
  status_only a (StatusGiven.not_registered s p high K l e) =
      rw (held_status_lem s p high K, status_within cells p number (distance_of high number) (omega arith), e)
  status_only a (StatusGiven.known s p high K l x e) =
      rw (held_status_lem s p high K, status_within cells p number (distance_of high number) (omega arith), e)

  module _ (s : Shaped places cells) where
    word_given : (p high : ℕ) → HeldAt places ssrc p high → distance_of high number < cells_of_a_place
        → (w : Option Status) → read_word_of (cell_at cells p number) ≡ w → StatusGiven places cells ssrc number (answer_of w)
    word_given p high K l None e = StatusGiven.not_registered s p high K l e
    word_given p high K l (Some x) e = StatusGiven.known s p high K l x e

    held_given : (p high : ℕ) → HeldAt places ssrc p high → StatusGiven places cells ssrc number (status_at cells p number (distance_of high number))
    held_given p high K =
        split_le cells_of_a_place (distance_of high number)
        (λ l. rw (status_past cells p number (distance_of high number) l) (StatusGiven.outside s p high K (omega arith)))
        (λ l. rw (status_within cells p number (distance_of high number) l) (word_given p high K (omega arith) (read_word_of (cell_at cells p number)) refl))

    found_given : (g : Option ℕ) → find_of places ssrc ≡ g → StatusGiven places cells ssrc number (asked_at g places cells number)
    found_given (Some p) f = held_given p (highest_at places p) (found_held places ssrc p f)
    found_given None f = StatusGiven.not_held s (lost_unheld places ssrc f)

  shape_given : Shape places cells → StatusGiven places cells ssrc number (status_asked places cells ssrc number)
  shape_given (wrong m) = rw (misshapen_is places cells m) (StatusGiven.bad_store m)
  shape_given (right s) = rw (shaped_is places cells s) (found_given s (find_of places ssrc) refl)

  -- the answer is given for the reason that the rules name
  pub status_given : StatusGiven places cells ssrc number (status_asked places cells ssrc number)
  status_given = shape_given (shape_of places cells)

  -- ---- the numbers that can come

  given_numbers : (a : Result Status Refusal) → StatusGiven places cells ssrc number a → (e : Refusal) → a ≡ Err e → OneOf (number_of e) status_numbers
  given_numbers a (StatusGiven.bad_store m) e q = same_number status_numbers BadStore e (cc) (inl refl)
  given_numbers a (StatusGiven.not_held s n) e q = same_number status_numbers NotHeld e (cc) (inr (inl refl))
  given_numbers a (StatusGiven.outside s p high K l) e q = same_number status_numbers NotRegistered e (cc) (inr (inr (inl refl)))
  given_numbers a (StatusGiven.not_registered s p high K l w) e q = same_number status_numbers NotRegistered e (cc) (inr (inr (inl refl)))
  given_numbers a (StatusGiven.known s p high K l x w) e q = never (cc)

  pub status_numbers_lem : (e : Refusal) → status_asked places cells ssrc number ≡ Err e → OneOf (number_of e) status_numbers
  status_numbers_lem e q = given_numbers (status_asked places cells ssrc number) status_given e q
