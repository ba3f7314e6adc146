-- The steps of the code: what a decision makes of the store. No statement for a caller needs these.
use Rattle.std.specs.Prelude.{ℕ, min, List, set, Result, Ok, Err}
use Rattle.ring.specs.Ring.{cells_of_a_place}
use Rattle.places.specs.Place.{place_word}
use Rattle.place_window.specs.Window.{cell_index, opened, updated}
use Rattle.cells.specs.Cell.{copied_word}
use Rattle.admission.specs.declared.Entry.{Entry}
use Rattle.refusal.specs.declared.Refusal.{Refusal}
use Rattle.admission.specs.declared.Entry.TheVariants as entry

-- the places after an arrival
abbrev pub places_by : List ℕ → ℕ → ℕ → Result Entry Refusal → List ℕ
places_by places ssrc number (Ok (entry.First p)) = set places p (place_word ssrc number)
places_by places ssrc number (Ok (entry.Ahead p f)) = set places p (place_word ssrc number)
places_by places ssrc number (Ok (entry.Late p)) = places
places_by places ssrc number (Ok (entry.Copy p)) = places
places_by places ssrc number (Err e) = places

-- the cells after it: word is that of a cell that it fills
abbrev pub cells_by : List ℕ → ℕ → ℕ → ℕ → Result Entry Refusal → List ℕ
cells_by cells number mark word (Ok (entry.First p)) = opened cells p number cells_of_a_place word
cells_by cells number mark word (Ok (entry.Ahead p f)) = opened cells p number (min f cells_of_a_place) word
cells_by cells number mark word (Ok (entry.Late p)) = set cells (cell_index p number) word
cells_by cells number mark word (Ok (entry.Copy p)) = updated (copied_word mark) cells p number
cells_by cells number mark word (Err e) = cells
