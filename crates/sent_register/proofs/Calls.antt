-- A registration in each of its cases. Assumes nothing.
use Prim.Native.Nat.{ℕ}
use mathlib.Core.Path.{◌≡◌, ◌∙◌}
use mathlib.Core.Bool.{true, false}
use mathlib.Core.List.{List}
use native.Mathlib.Omega.{arith}
use lib.ListN.{set}
use Rattle.ring.specs.Ring.{cells_of_a_place}
use Rattle.places.specs.Place.{place_word, find_of, free_of}
use Rattle.places.specs.Shape.{shaped, Ready}
use Rattle.places.specs.After.{store_after}
use Rattle.place_window.specs.Window.{opened, continued}
use Rattle.place_window.proofs.Opening.{moved_opened}
use Rattle.sent_word.specs.Word.{not_reported, registered_word}
use Rattle.sent_word.proofs.ByKind.{registered_new}
use Rattle.sent_register.specs.Register.{registration_refused, registered}
use Rattle.std.specs.Prelude.{Some, None, Ok, Err}
use Rattle.refusal.specs.declared.Refusal.TheVariants.{BadStore, NoFreePlace}

-- a cell that is empty is not reported after its number was registered
pub of_empty : registered_word 0 ≡ not_reported
of_empty = registered_new 0 (omega arith)

module _ (places cells : List ℕ) (ssrc number : ℕ) where
  pub registered_misshapen : shaped places cells ≡ false → registration_refused BadStore places cells ≡ registered places cells ssrc number
  registered_misshapen s = rw s

  module _ (s : shaped places cells ≡ true) where
    pub registered_held : (p : ℕ) → find_of places ssrc ≡ Some p
        → continued (Ok tt) Err registered_word places cells p ssrc number ≡ registered places cells ssrc number
    registered_held p f = rw (s, f)

    pub registered_first : (p : ℕ) → find_of places ssrc ≡ None → free_of places ≡ Some p → Ready places cells p
        → store_after (Ok tt) (set places p (place_word ssrc number)) (opened cells p number cells_of_a_place not_reported)
        ≡ registered places cells ssrc number
    registered_first p f o r =
        moved_opened (Ok tt) Err registered_word not_reported of_empty places cells p ssrc number r cells_of_a_place (omega arith) (omega arith)
        ∙ rw (s, f, o)

    pub registered_full : find_of places ssrc ≡ None → free_of places ≡ None
        → registration_refused NoFreePlace places cells ≡ registered places cells ssrc number
    registered_full f o = rw (s, f, o)
