-- What a read into the buffer leaves, and what one read after another does. Assumes nothing.
use Prim.Native.Nat.{ℕ, zero, suc, ◌+◌, ◌-◌, ◌≤◌, ◌<◌}
use mathlib.Core.Path.{◌≡◌, sym, ap, ◌∙◌}
use mathlib.Core.List.{List, [], ◌∷◌, ◌++◌, foldl, foldl-append}
use native.Mathlib.Omega.{arith}
use Rattle.std.proofs.Common.{Fits, w8}
use borrow.Rule.Slice.PartMut.{put_mid, take_put}
use lib.ListN.{length, get_or, take, drop, length-take, length-drop}
use lib.Seq.{take-add, take-append-le, length-take-le}
use Rattle.lists.proofs.All.{all_append}
use Rattle.octets.specs.Octets.{Octets}
use Rattle.octets.proofs.Small.{octets_from}
use Rattle.arrival_record.specs.Record.{record_octets}
use Rattle.recording.specs.Recorded.{Recorded, after_record}
use Rattle.arrival_file.specs.Pieces.{Feeding, fed}
use Rattle.intake.specs.Intake.{IntakeAfter, intake_after, fed_of, fed_next, held_in}
use Rattle.intake.specs.declared.Intake.{Intake}
use Rattle.intake.proofs.Pieces.{one_call, one_left}
use Rattle.line_input.specs.Turn.{PieceTaken, NoFault, LastTaken, at_end, at_fault}
use Rattle.line_input.specs.Taken.{StopsAtFault, PiecesTaken}

-- ---- octets

-- a list is of octets where each element is one
octets_by : (s : List ℕ) → ((k : ℕ) → Fits w8 (get_or s k 0)) → Octets s
octets_by [] h = tt
octets_by (x ∷ s) h = let first : Fits w8 x = h 0 in (omega arith, octets_by s (λ k. h (suc k)))

octets_first : (n : ℕ) (s : List ℕ) → Octets s → Octets (take n s)
octets_first zero s o = tt
octets_first (suc n) [] o = tt
octets_first (suc n) (x ∷ s) o = (o.0, octets_first n s o.1)

-- ---- one read

-- octets after those that are left make no difference
held_front : (o : IntakeAfter) (rest : List ℕ) → o.intake.left ≤ length o.octets
    → held_in (intake_after o.intake o.places o.cells (o.octets ++ rest)) ≡ held_in o
held_front o rest h = rw (take-append-le o.intake.left o.octets rest h)

next_front : (o : IntakeAfter) (piece rest : List ℕ)
    → let q : IntakeAfter = fed_next o piece in held_in (intake_after q.intake q.places q.cells (q.octets ++ rest)) ≡ held_in q
next_front o piece rest =
    let q : IntakeAfter = fed_next o piece in
    held_front q rest (omega (arith, one_left o piece, length-take q.intake.left q.octets))

-- the buffer after a read behind the octets that are left
abbrev pub read_into : ℕ → List ℕ → List ℕ → List ℕ
read_into left buf back = put_mid left (length buf - left) buf back

module _ (i : Intake) (places cells buf back : List ℕ) (room : i.left ≤ length buf) where
  abbrev read : List ℕ
  read = read_into i.left buf back

  -- what was left stays at its front
  stays : take i.left read ≡ take i.left buf
  stays = take_put i.left (length buf - i.left) buf back room

  -- a piece of n octets was read
  module _ (n : ℕ) where
    abbrev next : List ℕ
    next = take n (drop i.left read)

    lent : take (i.left + n) read ≡ take i.left buf ++ next
    lent = take-add i.left n read ∙ ap (λ (s : List ℕ). s ++ next) stays

    pub piece_taken : ((k : ℕ) → Fits w8 (get_or read k 0)) → 0 < n → i.left + n ≤ length read
        → (r : Intake) (places' cells' s rest : List ℕ) → intake_after r places' cells' s ≡ fed_of places cells i (take (i.left + n) read)
        → PieceTaken (intake_after i places cells buf) (intake_after r places' cells' (s ++ rest))
    piece_taken octet some within r places' cells' s rest e =
        let fed : intake_after r places' cells' s ≡ fed_next (intake_after i places cells buf) next = e ∙ ap (fed_of places cells i) lent in
        record {
          piece = next;
          octets = octets_first n (drop i.left read) (octets_from i.left read (octets_by read octet));
          some = omega (arith, length-take-le n (drop i.left read) (omega (arith, length-drop i.left read)));
          is =
              ap (λ (o : IntakeAfter). held_in (intake_after o.intake o.places o.cells (o.octets ++ rest))) fed
              ∙ next_front (intake_after i places cells buf) next rest;
        }

-- ---- read after read

-- pieces were read, and the next may be
abbrev pub Going : IntakeAfter → IntakeAfter → Type 0
Going first now = PiecesTaken first now × NoFault now

stops_last : (o : IntakeAfter) (ps : List (List ℕ)) (p : List ℕ) → StopsAtFault o ps → NoFault (foldl fed_next o ps) → StopsAtFault o (ps ++ p ∷ [])
stops_last o [] p s clear = (clear, tt)
stops_last o (q ∷ ps) p s clear = (s.0, stops_last (fed_next o q) ps p s.1 clear)

module _ (first now after : IntakeAfter) (going : Going first now) (few : after.intake.left < record_octets) where
  abbrev taken : PiecesTaken first now
  taken = going.0

  -- one more piece
  one_more : PieceTaken now after → PiecesTaken first after
  one_more p =
      let before : IntakeAfter = foldl fed_next first taken.pieces in
      let clear : NoFault before = λ e h. going.1 e (ap (λ (f : Feeding Recorded). f.phase) taken.is ∙ h) in
      record {
        pieces = taken.pieces ++ p.piece ∷ [];
        octets = all_append Octets taken.pieces p.piece taken.octets p.octets;
        stops = stops_last first taken.pieces p.piece taken.stops clear;
        is =
            p.is
            ∙ one_call now p.piece
            ∙ ap (λ (f : Feeding Recorded). fed after_record f p.piece) taken.is
            ∙ sym (one_call before p.piece)
            ∙ ap held_in (sym (foldl-append fed_next first taken.pieces (p.piece ∷ [])));
        few = few;
      }

  the_last : LastTaken now after → PiecesTaken first after
  the_last (at_end e) = record { pieces = taken.pieces; octets = taken.octets; stops = taken.stops; is = e ∙ taken.is; few = few }
  the_last (at_fault e h p) = one_more p

-- what a turn leaves, by its answer
module _ (first now : IntakeAfter) (going : Going first now) (i : Intake) (places cells buf : List ℕ) (few : i.left < record_octets) where
  pub more_taken : PieceTaken now (intake_after i places cells buf) × NoFault (intake_after i places cells buf)
      → Going first (intake_after i places cells buf)
  more_taken t = (one_more first now (intake_after i places cells buf) going few t.0, t.1)

  pub last_taken : LastTaken now (intake_after i places cells buf) → PiecesTaken first (intake_after i places cells buf)
  last_taken t = the_last first now (intake_after i places cells buf) going few t
