-- Rules: "Sent packets", "Order of refusals". What is known of a sent number, of any lent content.
-- Refusals 4, 5, 37.
use Rattle.std.specs.Prelude.{ℕ, cond, List, leb, Option, Result, Some, None, Ok, Err}
use Rattle.sent_word.specs.declared.Status.{Status}
use Rattle.refusal.specs.declared.Refusal.{Refusal}
use Rattle.ring.specs.Ring.{cells_of_a_place}
use Rattle.window.specs.Number.{distance_of}
use Rattle.places.specs.Place.{highest_at, find_of}
use Rattle.places.specs.Shape.{shaped}
use Rattle.place_window.specs.Window.{cell_at}
use Rattle.sent_word.specs.Word.{read_word_of}
use Rattle.refusal.specs.declared.Refusal.TheVariants.{BadStore, NotHeld, NotRegistered}

abbrev pub answer_of : Option Status → Result Status Refusal
answer_of None = Err NotRegistered
answer_of (Some s) = Ok s

-- rule "Asking": of the number that is b behind the highest one; 37 also where it is not in the window
unfoldable pub status_at : List ℕ → ℕ → ℕ → ℕ → Result Status Refusal
status_at cells p number b = cond (leb cells_of_a_place b) (Err NotRegistered) (answer_of (read_word_of (cell_at cells p number)))

abbrev pub asked_at : Option ℕ → List ℕ → List ℕ → ℕ → Result Status Refusal
asked_at (Some p) places cells number = status_at cells p number (distance_of (highest_at places p) number)
asked_at None places cells number = Err NotHeld

abbrev pub status_asked : List ℕ → List ℕ → ℕ → ℕ → Result Status Refusal
status_asked places cells ssrc number =
    cond (shaped places cells) (asked_at (find_of places ssrc) places cells number) (Err BadStore)
