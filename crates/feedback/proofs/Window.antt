-- A number of a window, its full number and its cell; the numbers of a range in a window. Assumes nothing.
use Prim.Native.Nat.{ℕ, zero, suc, ◌+◌, ◌-◌, ◌*◌, ◌/◌, ◌%◌, ◌≤◌, ◌<◌}
use mathlib.Core.Path.{◌≡◌, refl, sym, ap, ◌∙◌}
use mathlib.Core.List.{List}
use native.Mathlib.Omega.{arith}
use Rattle.lists.specs.All.{All}
use Rattle.lists.proofs.Cases.{split_le}
use Rattle.window.specs.Number.{distance_of}
use Rattle.ring.specs.Ring.{cells_of_a_place}
use Rattle.place_window.specs.Window.{cell_at}
use Rattle.std.specs.Prelude.{Option}
use Rattle.places.specs.declared.Stream.{Stream}
use Rattle.cells.specs.Cell.{read_cell}
use Rattle.streams.proofs.Numbers.{same_slot}
use Rattle.history.specs.Meaning.{Entry, cell_by}
use Rattle.history.specs.Reading.{Holds}
use Rattle.cutting.specs.Cutting.{following, numbers_from}
use Rattle.feedback.specs.Seen.{full_number, StandsFor}
use lib.ListN.{get_or}

full_at : (top s n k d : ℕ) → s < 65536 → n ≡ top - d → d < cells_of_a_place → d ≤ top → n ≡ 65536 * k + s → StandsFor top s n
full_at top s n k d small e near within at = record {
  most = omega arith;
  least = omega arith;
  low = omega arith;
  only = λ m most least low. omega arith;
}

-- the number is one of the window, and stands for its full number there
pub full_number_lem : (top s : ℕ) → 65536 ≤ top → s < 65536 → distance_of (top % 65536) s < cells_of_a_place → StandsFor top s (full_number top s)
full_number_lem top s big small near = by_parts (top / 65536) (top % 65536) refl (omega arith) (omega arith) (omega arith)
  where
    by_parts : (q t : ℕ) → top % 65536 ≡ t → top ≡ 65536 * q + t → t < 65536 → 0 < q → StandsFor top s (full_number top s)
    by_parts q t m e lt one =
        split_le s t
        (λ h. let d : distance_of (top % 65536) s ≡ t - s = rw m (omega arith) in
        full_at top s (full_number top s) q (distance_of (top % 65536) s) small refl near (omega (arith, d)) (omega (arith, d)))
        (λ h. let d : distance_of (top % 65536) s ≡ t + 65536 - s = rw m (omega arith) in
        full_at top s (full_number top s) (q - 1) (distance_of (top % 65536) s) small refl near (omega (arith, d)) (omega (arith, d)))

-- the cell of a number of the window reads as the entries of its full number say
pub cell_in_window : (cells : List ℕ) (p : ℕ) (h : Option Stream) (ssrc top : ℕ) (es : List Entry) (s : ℕ) → Holds cells p h ssrc top es
    → s < 65536 → distance_of (top % 65536) s < cells_of_a_place → read_cell (cell_at cells p s) ≡ cell_by es (full_number top s)
cell_in_window cells p h ssrc top es s held small near =
    let f : StandsFor top s (full_number top s) = full_number_lem top s held.begun small near in
    ap (λ (m : ℕ). read_cell (get_or cells (cells_of_a_place * p + m) 0)) (sym (same_slot (full_number top s) s f.low)) ∙ held.window (full_number top s) f.most f.least

-- ---- ranges in a window

closer : (highest s : ℕ) → highest < 65536 → s < 65536 → 0 < distance_of highest s → distance_of highest (following s) + 1 ≡ distance_of highest s
closer highest s h b far =
    split_le 65535 s
    (λ l. let f : following s ≡ 0 = omega arith in rw f (omega arith))
    (λ l. let f : following s ≡ s + 1 = omega arith in rw f (omega arith))

-- the numbers of a range in the window are numbers of the window
pub range_in_window : (highest begin count : ℕ) → highest < 65536 → begin < 65536
    → distance_of highest begin < cells_of_a_place → count ≤ distance_of highest begin + 1
    → All (λ (s : ℕ). (s < 65536) × (distance_of highest s < cells_of_a_place)) (numbers_from begin count)
range_in_window highest begin zero h b near fits = tt
range_in_window highest begin (suc zero) h b near fits = ((b, near), tt)
range_in_window highest begin (suc (suc k)) h b near fits =
    let c : distance_of highest (following begin) + 1 ≡ distance_of highest begin = closer highest begin h b (omega arith) in
    ((b, near), range_in_window highest (following begin) (suc k) h (omega arith) (omega arith) (omega arith))
