-- The window that is opened for a number, over any f and the word that f makes of 0. Assumes nothing.
use Prim.Native.Nat.{ℕ, ◌+◌, ◌*◌, ◌<◌, ◌≤◌, min}
use mathlib.Core.Path.{◌≡◌, ◌∙◌}
use mathlib.Core.List.{List}
use native.Mathlib.Omega.{arith}
use lib.ListN.{length, set}
use Rattle.refusal.specs.declared.Refusal.{Refusal}
use Rattle.window.specs.Number.{move_of}
use Rattle.ring.specs.Ring.{cells_of_a_place}
use Rattle.window.proofs.Number.{ahead_is}
use Rattle.places.specs.Place.{place_word, highest_at}
use Rattle.places.specs.Shape.{Ready}
use Rattle.places.specs.After.{store_after}
use Rattle.place_window.specs.Window.{opened, moved, continued}
use Rattle.place_window.proofs.Moving.{opened_updated, continued_by}
use Rattle.window.specs.declared.Move.TheVariants.{Ahead}

module _ {A : Type 0} (accepted : A) (refused : Refusal → A) (f : ℕ → ℕ) (word : ℕ) (empty : f 0 ≡ word)
    (places cells : List ℕ) (p ssrc number : ℕ) (ready : Ready places cells p) where
  -- n numbers come into it
  pub moved_opened : (n : ℕ) → 0 < n → n ≤ cells_of_a_place
      → store_after accepted (set places p (place_word ssrc number)) (opened cells p number n word)
      ≡ moved accepted refused f places cells p ssrc number n
  unfolding moved
  moved_opened n some few =
      let room : cells_of_a_place * p + cells_of_a_place ≤ length cells = omega (arith, ready.sized, ready.there) in
      rw (opened_updated cells p number n some few f room, empty)

  -- for a number that is d ahead of the highest
  pub continued_ahead : (d : ℕ) → move_of (highest_at places p) number ≡ Ahead d
      → store_after accepted (set places p (place_word ssrc number)) (opened cells p number (min d cells_of_a_place) word)
      ≡ continued accepted refused f places cells p ssrc number
  continued_ahead d e =
      let known = ahead_is (highest_at places p) number d e in
      moved_opened (min d cells_of_a_place) (omega (arith, known.1)) (omega arith)
      ∙ continued_by accepted refused f places cells p ssrc number (Ahead d) e
