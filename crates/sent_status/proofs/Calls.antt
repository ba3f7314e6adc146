-- What is known of a sent number, in each of its cases. Assumes nothing.
use Prim.Native.Nat.{ℕ, ◌<◌, ◌≤◌}
use mathlib.Core.Path.{◌≡◌}
use mathlib.Core.Bool.{true, false}
use mathlib.Core.List.{List}
use borrow.Author.Tests.{le-leb, lt-leb}
use Rattle.ring.specs.Ring.{cells_of_a_place}
use Rattle.window.specs.Number.{distance_of}
use Rattle.places.specs.Place.{highest_at, find_of}
use Rattle.places.specs.Shape.{shaped}
use Rattle.place_window.specs.Window.{cell_at}
use Rattle.sent_word.specs.Word.{read_word_of}
use Rattle.sent_status.specs.Status.{answer_of, status_at, status_asked}
use Rattle.std.specs.Prelude.{Some, None, Err}
use Rattle.refusal.specs.declared.Refusal.TheVariants.{BadStore, NotHeld, NotRegistered}

-- of the number that is b behind the highest one
module _ (cells : List ℕ) (p number b : ℕ) where
  pub status_past : cells_of_a_place ≤ b → status_at cells p number b ≡ Err NotRegistered
  unfolding status_at
  status_past l = rw (le-leb cells_of_a_place b l)

  pub status_within : b < cells_of_a_place → status_at cells p number b ≡ answer_of (read_word_of (cell_at cells p number))
  unfolding status_at
  status_within l = rw (lt-leb cells_of_a_place b l)

module _ (places cells : List ℕ) (ssrc number : ℕ) where
  pub asked_misshapen : shaped places cells ≡ false → Err BadStore ≡ status_asked places cells ssrc number
  asked_misshapen s = rw s

  module _ (s : shaped places cells ≡ true) where
    pub asked_held : (p : ℕ) → find_of places ssrc ≡ Some p
        → status_at cells p number (distance_of (highest_at places p) number) ≡ status_asked places cells ssrc number
    asked_held p f = rw (s, f)

    pub asked_not_held : find_of places ssrc ≡ None → Err NotHeld ≡ status_asked places cells ssrc number
    asked_not_held f = rw (s, f)
