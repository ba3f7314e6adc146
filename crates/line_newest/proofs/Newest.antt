-- Gathering the requests, place by place. Assumes nothing.
use Prim.Native.Nat.{ℕ, ◌+◌, ◌<◌, ◌≤◌}
use mathlib.Core.Path.{◌≡◌, refl, sym, ap, ◌∙◌}
use mathlib.Core.Bool.{false}
use mathlib.Core.List.{List, [], ◌∷◌, ◌++◌, append-nil, append_assoc}
use native.Mathlib.Omega.{arith}
use native.Mathlib.Numerals.{add-one}
use lib.ListN.{length, get_or, set, take, drop, length-set, drop_of_length-le}
use lib.Seq.{drop-cons, take-suc-set}
use Rattle.refusal.specs.declared.Refusal.TheVariants.{BadStore}
use Rattle.window.specs.Number.{distance_of}
use Rattle.places.specs.Place.{read_place}
use Rattle.places.specs.Shape.{shaped, most_places}
use Rattle.std.specs.Prelude.{Option, Some, None}
use Rattle.places.specs.declared.Stream.{Stream}
use Rattle.cutting.specs.declared.Request.{Request}
use Rattle.line_refusal.specs.Refused.{refused_line}
use Rattle.line_report.specs.Report.{FourEach, requested_text}
use Rattle.line_newest.specs.Newest.{newest_four, asked_of, newest, report_text}

-- the first n requests, and those of the places starting at i
abbrev pub gathered : List Request → ℕ → List ℕ → ℕ → List Request
gathered requests n places i = take n requests ++ newest (drop i places)

module _ (places : List ℕ) (requests : List Request) (n i : ℕ) (there : i < length places) (h : Option Stream) (read : h ≡ read_place (get_or places i 0)) where
  newest_on : newest (drop i places) ≡ asked_of h (newest (drop (i + 1) places))
  unfolding newest
  newest_on = rw (add-one i, drop-cons places i 0 there, read)

  pub gather_free : h ≡ None → gathered requests n places (i + 1) ≡ gathered requests n places i
  gather_free e = rw (newest_on, e)

  pub gather_held : (ssrc highest begin : ℕ) → h ≡ Some (record { ssrc = ssrc; highest = highest }) → begin ≡ distance_of highest 3 → n < length requests
      → gathered (set requests n (record { ssrc = ssrc; begin = begin; count = 4 })) (n + 1) places (i + 1) ≡ gathered requests n places i
  gather_held ssrc highest begin e b l =
      rw (newest_on, e, b, add-one n, take-suc-set requests n (newest_four ssrc highest) l)
      (append_assoc (take n requests) (newest_four ssrc highest ∷ []) (newest (drop (i + 1) places)))

-- all places were read
pub gather_all : (places : List ℕ) (requests : List Request) (n i : ℕ) (rs : List Request)
    → length places ≤ i → gathered requests n places i ≡ rs → take n requests ≡ rs
unfolding newest
gather_all places requests n i rs l e =
    let d : drop i places ≡ [] = drop_of_length-le places {i = i} l in
    sym (append-nil (take n requests)) ∙ ap (λ (t : List ℕ). take n requests ++ newest t) (sym d) ∙ e

-- what a turn over the places keeps
pub record Gathering (places : List ℕ) (requests : List Request) (n i : ℕ) : Type 0 where
  pub few : length places ≤ most_places
  pub below : n ≤ i
  pub sized : length requests ≡ most_places
  pub all : gathered requests n places i ≡ newest places

module _ (places : List ℕ) (requests : List Request) (n i : ℕ) (g : Gathering places requests n i)
    (there : i < length places) (h : Option Stream) (read : h ≡ read_place (get_or places i 0)) (requests' : List Request) (n' : ℕ) where
  pub turn_free : h ≡ None → requests' ≡ requests → n' ≡ n → Gathering places requests' n' (i + 1)
  turn_free e p q =
      rw (p, q)
      (record { few = g.few; below = omega arith; sized = g.sized; all = gather_free places requests n i there h read e ∙ g.all })

  pub turn_held : (ssrc highest begin : ℕ) → h ≡ Some (record { ssrc = ssrc; highest = highest }) → begin ≡ distance_of highest 3
      → requests' ≡ set requests n (record { ssrc = ssrc; begin = begin; count = 4 }) → n' ≡ n + 1 → Gathering places requests' n' (i + 1)
  turn_held ssrc highest begin e b p q =
      rw (p, q)
      (record {
        few = g.few;
        below = omega arith;
        sized = simp length-set g.sized;
        all = gather_held places requests n i there h read ssrc highest begin e b (omega arith) ∙ g.all;
      })

-- each request is of four numbers
asked_four : (h : Option Stream) (rs : List Request) → FourEach rs → FourEach (asked_of h rs)
asked_four None rs f = f
asked_four (Some s) rs f = (refl, f)

pub newest_four_lem : (places : List ℕ) → FourEach (newest places)
unfolding newest
newest_four_lem [] = tt
newest_four_lem (word ∷ places) = asked_four (read_place word) (newest places) (newest_four_lem places)

-- a store whose shape is wrong
pub misshapen_text : (places cells : List ℕ) (rts : ℕ) → shaped places cells ≡ false → report_text places cells rts ≡ refused_line BadStore
unfolding requested_text
misshapen_text places cells rts e = rw e
