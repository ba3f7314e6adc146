-- Rules: "Sent packets", "Order of refusals". Taking in a feedback packet, as its answer and the
-- cells that it leaves, of any lent content and any octets. Refusals 4, then the reader's.
use Rattle.std.specs.Prelude.{ℕ, cond, List, Result, Ok, Err}
use Rattle.places.specs.Shape.{shaped}
use Rattle.reader.specs.Reading.{Decoded, packet, refused, decode_packet}
use Rattle.sent_block.specs.Reports.{reports_of, all_reported}
use Rattle.refusal.specs.declared.Refusal.{Refusal}
use Rattle.refusal.specs.declared.Refusal.TheVariants.{BadStore}

-- the answer to a call that leaves the places alone, and what it leaves in the cells
pub record CellsAfter (A : Type 0) : Type 0 where
  pub answer : A
  pub cells : List ℕ

abbrev pub cells_after : {A : Type 0} → A → List ℕ → CellsAfter A
cells_after a c = record { answer = a; cells = c }

-- by what the octets are read as: a refused packet leaves the cells as they were
abbrev pub taken_as_of : Decoded → List ℕ → List ℕ → CellsAfter (Result (Unit {0}) Refusal)
taken_as_of (packet p) places cells = cells_after (Ok tt) (all_reported places p.rts cells (reports_of p.blocks))
taken_as_of (refused e) places cells = cells_after (Err e) cells

abbrev pub taken_in : List ℕ → List ℕ → List ℕ → CellsAfter (Result (Unit {0}) Refusal)
taken_in places cells s =
    cond (shaped places cells) (taken_as_of (decode_packet s) places cells) (cells_after (Err BadStore) cells)
