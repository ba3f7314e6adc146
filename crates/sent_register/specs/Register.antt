-- Rules: "Sent packets", "Order of refusals". Registering a sent number, as its answer and the
-- store that it leaves, of any lent content. Refusals 4; then 3 if the stream is held, else 2.
use Rattle.std.specs.Prelude.{ℕ, cond, List, Result, Ok, Err}
use Rattle.refusal.specs.declared.Refusal.{Refusal}
use Rattle.places.specs.Place.{find_of}
use Rattle.places.specs.Shape.{shaped}
use Rattle.places.specs.After.{StoreAfter, store_after}
use Rattle.place_window.specs.Window.{admitted_at}
use Rattle.sent_word.specs.Word.{registered_word}
use Rattle.refusal.specs.declared.Refusal.TheVariants.{BadStore}

-- a refused registration leaves the store as it was
abbrev pub registration_refused : Refusal → List ℕ → List ℕ → StoreAfter (Result (Unit {0}) Refusal)
registration_refused e places cells = store_after (Err e) places cells

-- the window moves as with an arrival; at the cell of the number it makes the word `registered_word`
abbrev pub registered : List ℕ → List ℕ → ℕ → ℕ → StoreAfter (Result (Unit {0}) Refusal)
registered places cells ssrc number =
    cond (shaped places cells)
    (admitted_at (Ok tt) Err registered_word (find_of places ssrc) places cells ssrc number)
    (registration_refused BadStore places cells)
