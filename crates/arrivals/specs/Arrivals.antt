-- Rules: "Arrivals and the window", "Kinds of arrival", "Order of refusals". An arrival, as its
-- answer and the store that it leaves, of any lent content. Refusals 4, 1; then 3 if the stream is
-- held, else 2.
use Rattle.std.specs.Prelude.{ℕ, cond, List, ltb, Option, Result, Ok, Err}
use Rattle.admission.specs.declared.ArrivalKind.{ArrivalKind}
use Rattle.refusal.specs.declared.Refusal.{Refusal}
use Rattle.metric.specs.Metric.{congested}
use Rattle.places.specs.Place.{find_of}
use Rattle.places.specs.Shape.{shaped}
use Rattle.place_window.specs.Window.{admitted_at}
use Rattle.places.specs.After.{StoreAfter, store_after}
use Rattle.cells.specs.Cell.{word_after}
use Rattle.admission.specs.Kind.{kind_at}
use Rattle.refusal.specs.declared.Refusal.TheVariants.{BadMark, BadStore}

-- a refused arrival leaves the store as it was
abbrev pub arrival_refused : Refusal → List ℕ → List ℕ → StoreAfter (Result ArrivalKind Refusal)
arrival_refused e places cells = store_after (Err e) places cells

-- an arrival of a stream, by where it was found; at the cell of its number it makes the word `word_after`, and an
-- accepted one is answered with its kind
abbrev pub arrived_at : Option ℕ → List ℕ → List ℕ → ℕ → ℕ → ℕ → Option ℕ → StoreAfter (Result ArrivalKind Refusal)
arrived_at found places cells ssrc number mark time =
    admitted_at (Ok (kind_at found places cells number)) Err (word_after mark time) found places cells ssrc number

abbrev pub arrived : List ℕ → List ℕ → ℕ → ℕ → ℕ → Option ℕ → StoreAfter (Result ArrivalKind Refusal)
arrived places cells ssrc number mark time =
    cond (shaped places cells)
    (cond (ltb congested mark)
    (arrival_refused BadMark places cells)
    (arrived_at (find_of places ssrc) places cells ssrc number mark time))
    (arrival_refused BadStore places cells)
