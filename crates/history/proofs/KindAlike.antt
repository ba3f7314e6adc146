-- The store gives an accepted arrival the kind that the machine gives it. Assumes nothing.
use Prim.Native.Nat.{ℕ, ◌+◌, ◌-◌, ◌*◌, ◌%◌, ◌<◌, ◌≤◌}
use mathlib.Core.Path.{◌≡◌, refl, sym, ap, ◌∙◌}
use mathlib.Core.List.{List}
use native.Mathlib.Omega.{arith}
use native.Mathlib.Decide.{dec_le, dec_lt}
use borrow.Author.Tests.{lt-ltb, le-ltb}
use lib.ListN.{get_or, length}
use Rattle.std.specs.Prelude.{Option, Some, None, Ok, Err}
use Rattle.lists.proofs.First.{first_true}
use Rattle.ring.specs.Ring.{cells_of_a_place}
use Rattle.window.specs.Number.{distance_of, farthest_ahead, sequence_numbers}
use Rattle.places.specs.Place.{place_at, find_of}
use Rattle.places.proofs.Held.{held_highest}
use Rattle.place_window.specs.Window.{cell_at}
use Rattle.cells.specs.Cell.{read_cell}
use Rattle.admission.specs.Kind.{later_kind, kind_at}
use Rattle.admission.specs.declared.ArrivalKind.{ArrivalKind}
use Rattle.admission.proofs.KindOf.{is_ahead_lem, is_behind, kind_new, kind_later}
use Rattle.streams.specs.Full.{full_of}
use Rattle.streams.specs.Model.{Place, stream, names, highest_in, at, find_in, found_in, stream_in, later_at, admitted_in, admitted}
use Rattle.streams.specs.Reading.{Store}
use Rattle.streams.proofs.Numbers.{full_ahead, full_behind, full_low, same_slot}
use Rattle.streams.proofs.Places.{named_is, later_old, find_same}
use Rattle.history.specs.Meaning.{Entry}
use Rattle.history.specs.Model.{kind_of_full, model_kind}
use Rattle.history.specs.Reading.{arrival_meaning, Holds, Reads}

module _ (st : Store) (ps : List (Place Entry)) (R : Reads st ps) (entry : ℕ → Entry) (ssrc number : ℕ) (low : number < sequence_numbers) where
  -- a number of a stream that place k holds, where it is not too old
  module _ (k top : ℕ) (es : List Entry) (held : at ps k ≡ stream ssrc top es) where
    H : Holds st.cells k (place_at st.places k) ssrc top es
    H = rw held at (R.each k)

    abbrev ahead : ℕ
    ahead = distance_of number (top % sequence_numbers)

    -- the cell of the number is that of its full number
    cell_is : cell_at st.cells k number ≡ cell_at st.cells k (full_of top number)
    cell_is =
        ap (λ (i : ℕ). get_or st.cells (cells_of_a_place * k + i) 0)
        (sym (same_slot (full_of top number) number (full_low top number H.begun low)))

    store_kind_lem : kind_at (Some k) st.places st.cells number ≡ later_kind ahead (read_cell (cell_at st.cells k number))
    store_kind_lem = rw (kind_later st.places st.cells k number, held_highest (get_or st.places k 0) ssrc (top % sequence_numbers) H.place)

    behind_kind : (0 < ahead → farthest_ahead < ahead) → top < full_of top number + cells_of_a_place
        → later_kind ahead (read_cell (cell_at st.cells k number)) ≡ kind_of_full top es (full_of top number)
    unfolding kind_of_full
    behind_kind d new =
        let full = full_behind top number H.begun low d in
        rw (is_behind ahead d, le-ltb top (full_of top number) (omega arith), cell_is, H.window (full_of top number) (omega arith) new)

    same_kind : top < full_of top number + cells_of_a_place → kind_at (Some k) st.places st.cells number ≡ kind_of_full top es (full_of top number)
    unfolding kind_of_full
    same_kind new =
        store_kind_lem
        ∙ elim (dec_le ahead farthest_ahead) [
          | yes f ↦
              elim (dec_le ahead 0) [
                | yes z ↦ behind_kind (λ l. omega arith) new
                | no z ↦
                    let full = full_ahead top number H.begun low f in
                    let passed : full_of top number - (top + 1) ≡ ahead - 1 = omega arith in
                    rw (is_ahead_lem ahead (omega arith) f, lt-ltb top (full_of top number) (omega arith), passed)
              ]
          | no f ↦ behind_kind (λ l. omega arith) new
        ]

  -- the machine answers with the store's kind as with its own: where they differ, the number is too old
  abbrev store_kind : ArrivalKind
  store_kind = kind_at (find_of st.places ssrc) st.places st.cells number

  abbrev Same : Option ℕ → Type 0
  Same f =
      admitted_in (Ok (kind_at f st.places st.cells number)) Err entry f ps ssrc number
      ≡ admitted_in (Ok (model_kind (found_in f ps) number)) Err entry f ps ssrc number

  same_found : (f : Option ℕ) → find_in ps ssrc ≡ f → Same f
  same_found None e = rw (kind_new st.places st.cells number)
  same_found (Some k) e = named (named_is ssrc (at ps k) (first_true (λ (i : ℕ). names ssrc (at ps i)) (length ps) 0 k e))
    where
      named : (top : ℕ) × ((es : List Entry) × (at ps k ≡ stream ssrc top es)) → Same (Some k)
      named (top, (es, held)) =
          elim (dec_lt top (full_of top number + cells_of_a_place)) [
            | yes new ↦
                ap (λ (a : ArrivalKind). later_at (Ok a) Err entry ps k ssrc (full_of (highest_in (at ps k)) number))
                (same_kind k top es held new ∙ ap (λ (P : Place Entry). model_kind P number) (sym held))
            | no old ↦
                let gone : full_of (highest_in (at ps k)) number + cells_of_a_place ≤ highest_in (at ps k) = rw held (omega arith) in
                later_old entry ps k ssrc (full_of (highest_in (at ps k)) number) _ _ gone
                ∙ sym (later_old entry ps k ssrc (full_of (highest_in (at ps k)) number) _ _ gone)
          ]

  pub same_admitted : admitted (Ok store_kind) Err entry ps ssrc number
      ≡ admitted (Ok (model_kind (stream_in ps ssrc) number)) Err entry ps ssrc number
  same_admitted = rw (find_same arrival_meaning st ps R ssrc) (same_found (find_in ps ssrc) refl)
