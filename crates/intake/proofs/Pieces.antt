-- Calls of `feed`, piece after piece, give what the whole file gives, wherever it is cut. Assumes nothing.
use Prim.Native.Nat.{ℕ, zero, suc, ◌+◌, ◌/◌, ◌<◌, ◌≤◌}
use mathlib.Core.Path.{◌≡◌, refl, ap, ◌∙◌}
use mathlib.Core.Bool.{Bool, true, false, cond}
use mathlib.Core.List.{List, [], ◌∷◌, ◌++◌, foldl, flatten}
use native.Mathlib.Omega.{arith}
use borrow.Author.Tests.{lt-ltb, le-ltb}
use lib.Dec.{ltb}
use lib.ListN.{length, take, drop, length-drop}
use lib.Seq.{sets, sets-eq, take_at}
use Rattle.std.specs.Prelude.{Result, Ok, Err}
use Rattle.lists.proofs.Cases.{split_le}
use Rattle.refusal.specs.declared.Refusal.{Refusal}
use Rattle.arrival_record.specs.Record.{record_read_of, record_octets}
use Rattle.arrival_record.specs.declared.Record.{Record}
use Rattle.arrival_file.specs.File.{header_of, file_of, file_header_octets}
use Rattle.arrival_file.specs.Pieces.{Feeding, feeding, on_entry, taken, taken_behind, taken_here, fed, ended, all_taken}
use Rattle.arrival_file.specs.declared.Phase.{Phase}
use Rattle.arrival_file.proofs.Pieces.{pieces}
use Rattle.recording.specs.Recorded.{Recorded, recorded, after_record}
use Rattle.intake.specs.Intake.{IntakeAfter, intake_after, kept, fed_of, left_of, fed_next, held_in}
use Rattle.intake.specs.declared.Intake.{Intake}
use Rattle.arrival_file.specs.declared.Phase.TheVariants.{Header, Records, Faulty}
use Rattle.intake.specs.Intake as intake

-- ---- no more is left than there was

module _ {S : Type 0} (step : S → Record → S) where
  taken_left : (n : ℕ) (x : S) (s : List ℕ) → length (taken step n x s).left ≤ length s
  unfolding taken
  taken_left zero x s = omega arith
  taken_left (suc n) x s = go (record_read_of s) (λ r. taken_left n (step x r) (drop record_octets s))
    where
      go : (y : Result Record Refusal) → ((r : Record) → length (taken step n (step x r) (drop record_octets s)).left ≤ length (drop record_octets s))
          → length (on_entry y x (λ r. taken step n (step x r) (drop record_octets s))).left ≤ length s
      go (Ok r) h = omega (arith, h r, length-drop record_octets s)
      go (Err q) h = omega arith

  behind_left : (v : Result (Unit {0}) Refusal) (x : S) (s t : List ℕ) → length t ≤ length s → length (taken_behind step v x t).left ≤ length s
  behind_left (Ok tt) x s t h = omega (arith, taken_left (length t / record_octets) x t)
  behind_left (Err e) x s t h = omega arith

  taken_here_left : (p : Phase) (x : S) (s : List ℕ) → length (taken_here step p x s).left ≤ length s
  unfolding taken_here
  taken_here_left Header x s = go (ltb (length s) file_header_octets)
    where
      go : (b : Bool) → length (cond b (feeding Header x s) (taken_behind step (header_of s) x (drop file_header_octets s))).left ≤ length s
      go true = omega arith
      go false = behind_left (header_of s) x s (drop file_header_octets s) (omega (arith, length-drop file_header_octets s))
  taken_here_left Records x s = behind_left (Ok tt) x s s (omega arith)
  taken_here_left (Faulty e) x s = omega arith

-- fewer octets are left than a record has
module _ {S : Type 0} (step : S → Record → S) where
  taken_short : (n : ℕ) (x : S) (s : List ℕ) → length s / record_octets ≡ n → length (taken step n x s).left < record_octets
  unfolding taken
  taken_short zero x s e = omega arith
  taken_short (suc n) x s e = go (record_read_of s) (λ r. taken_short n (step x r) (drop record_octets s) (omega (arith, length-drop record_octets s)))
    where
      go : (y : Result Record Refusal) → ((r : Record) → length (taken step n (step x r) (drop record_octets s)).left < record_octets)
          → length (on_entry y x (λ r. taken step n (step x r) (drop record_octets s))).left < record_octets
      go (Ok r) h = h r
      go (Err q) h = omega arith

  behind_short : (v : Result (Unit {0}) Refusal) (x : S) (s : List ℕ) → length (taken_behind step v x s).left < record_octets
  behind_short (Ok tt) x s = taken_short (length s / record_octets) x s refl
  behind_short (Err e) x s = omega arith

  taken_here_short : (p : Phase) (x : S) (s : List ℕ) → length (taken_here step p x s).left < record_octets
  unfolding taken_here
  taken_here_short Header x s =
      split_le file_header_octets (length s)
      (λ h. rw (le-ltb (length s) file_header_octets h) (behind_short (header_of s) x (drop file_header_octets s)))
      (λ h. rw (lt-ltb (length s) file_header_octets h) (omega arith))
  taken_here_short Records x s = behind_short (Ok tt) x s
  taken_here_short (Faulty e) x s = omega arith

pub short_left : (places cells s s' : List ℕ) (places' cells' : List ℕ) (i r : Intake)
    → intake_after r places' cells' s' ≡ fed_of places cells i s → r.left < record_octets
short_left places cells s s' places' cells' i r e =
    let l : r.left ≡ length (taken_here after_record i.phase (recorded places cells i.rts i.gap) s).left = ap (λ (o : IntakeAfter). o.intake.left) e in
    omega (arith, taken_here_short after_record i.phase (recorded places cells i.rts i.gap) s)

-- what was put at the front stands there
front : (s t : List ℕ) → length t ≤ length s → take (length t) (sets s 0 t) ≡ t
front s t h = rw (sets-eq t s 0 (omega arith)) (take_at t (drop (0 + length t) s) (length t) refl)

-- ---- one call, and all

pub one_call : (o : IntakeAfter) (piece : List ℕ) → held_in (fed_next o piece) ≡ fed after_record (held_in o) piece
one_call o piece = go (fed after_record (held_in o) piece) (taken_here_left after_record (held_in o).phase (held_in o).made ((held_in o).left ++ piece))
  where
    go : (f : Feeding Recorded) → length f.left ≤ length ((held_in o).left ++ piece) → held_in (kept f ((held_in o).left ++ piece)) ≡ f
    go f h = ap (feeding f.phase f.made) (front ((held_in o).left ++ piece) f.left h)

calls : (o : IntakeAfter) (ps : List (List ℕ)) → held_in (foldl fed_next o ps) ≡ foldl (fed after_record) (held_in o) ps
calls o [] = refl
calls o (p ∷ ps) = calls (fed_next o p) ps ∙ ap (λ f. foldl (fed after_record) f ps) (one_call o p)

-- the answer counts the octets that are left
pub one_left : (o : IntakeAfter) (piece : List ℕ) → length (left_of (fed_next o piece)) ≡ (fed_next o piece).intake.left
one_left o piece = ap (λ (f : Feeding Recorded). length f.left) (one_call o piece)

pub calls_left : (o : IntakeAfter) (ps : List (List ℕ)) → length (left_of o) ≡ o.intake.left
    → length (left_of (foldl fed_next o ps)) ≡ (foldl fed_next o ps).intake.left
calls_left o [] e = e
calls_left o (p ∷ ps) e = calls_left (fed_next o p) ps (one_left o p)

-- Before the first call.
abbrev pub first : List ℕ → List ℕ → IntakeAfter
first places cells = intake_after intake.at_start places cells []

-- Once `feed` has been called with every piece, the file has given what its records make of the store, or its first fault.
pub all_calls : (places cells : List ℕ) (ps : List (List ℕ))
    → ended (held_in (foldl fed_next (first places cells) ps)) ≡ all_taken after_record (recorded places cells 0 0) (file_of (flatten ps))
all_calls places cells ps = ap ended (calls (first places cells) ps) ∙ pieces after_record (recorded places cells 0 0) ps
