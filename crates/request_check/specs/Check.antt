-- Rules: "Requests". What is wrong with a request: refusals 5, 8, 9, in this order.
use Rattle.std.specs.Prelude.{ℕ, ◌-◌, Bool, true, false, cond, List, [], ◌∷◌, eqb, ltb, leb}
use Rattle.std.specs.Prelude.{Option, Result, Some, None, Ok, Err}
use Rattle.refusal.specs.declared.Refusal.{Refusal}
use Rattle.window.specs.Number.{distance_of}
use Rattle.ring.specs.Ring.{cells_of_a_place}
use Rattle.places.specs.Place.{find_of, highest_at}
use Rattle.cutting.specs.declared.Request.{Request}
use Rattle.refusal.specs.declared.Refusal.TheVariants.{NotHeld, StreamRepeated, BadRange}

-- one of the requests names the stream
unfoldable pub named : List Request → ℕ → Bool
named [] ssrc = false
named (q ∷ qs) ssrc = cond (eqb q.ssrc ssrc) true (named qs ssrc)

-- rules "Range in the window" and "Empty request": the begin of a range is at most 2,047 numbers
-- behind the highest one, and not less than count - 1; that of a range without numbers is the
-- highest one
unfoldable pub in_window_of : ℕ → ℕ → ℕ → Bool
in_window_of highest begin count =
    cond (eqb count 0) (eqb begin highest)
    (cond (ltb (distance_of highest begin) cells_of_a_place) (leb (count - 1) (distance_of highest begin)) false)

-- a request that comes after `earlier` ones, by where its stream was found
abbrev pub check_at : Option ℕ → List ℕ → List Request → Request → Result ℕ Refusal
check_at None places earlier r = Err NotHeld
check_at (Some p) places earlier r =
    cond (named earlier r.ssrc) (Err StreamRepeated)
    (cond (in_window_of (highest_at places p) r.begin r.count) (Ok p) (Err BadRange))

unfoldable pub check_of : List ℕ → List Request → Request → Result ℕ Refusal
check_of places earlier r = check_at (find_of places r.ssrc) places earlier r
