-- Rules: "Arrival file", of a file that comes in pieces, cut anywhere. Each record is taken once
-- its last octet is there, and `step` says what is done with it.
use Rattle.std.specs.Prelude.{ℕ, zero, suc, ◌/◌, cond, length, drop, ltb, Result, Ok, Err}
use mathlib.Core.List.{List, [], ◌++◌, foldl}
use Rattle.arrival_record.specs.Record.{record_octets, record_read_of}
use Rattle.arrival_record.specs.declared.Record.{Record}
use Rattle.refusal.specs.declared.Refusal.{Refusal}
use Rattle.arrival_file.specs.File.{file_header_octets, header_of, end_of}
use Rattle.arrival_file.specs.declared.Phase.{Phase}
use Rattle.arrival_file.specs.declared.Phase.TheVariants.{Header, Records, Faulty}

-- what is kept between two pieces: the phase, what the records so far have made, and the octets that are not
-- taken yet
pub record Feeding (S : Type 0) : Type 0 where
  pub phase : Phase
  pub made : S
  pub left : List ℕ

module _ {S : Type 0} where
  abbrev pub feeding : Phase → S → List ℕ → Feeding S
  feeding p x s = record { phase = p; made = x; left = s }

  -- before the first piece
  abbrev pub starting : S → Feeding S
  starting x = feeding Header x []

  abbrev pub on_entry : Result Record Refusal → S → (Record → Feeding S) → Feeding S
  on_entry (Ok r) x next = next r
  on_entry (Err e) x next = feeding (Faulty e) x []

  abbrev pub result_of : Result (Unit {0}) Refusal → S → Result S Refusal
  result_of (Ok tt) x = Ok x
  result_of (Err e) x = Err e

  -- what the file has given once it is at its end
  abbrev pub ended : Feeding S → Result S Refusal
  ended f = result_of (end_of f.phase (length f.left)) f.made

module _ {S : Type 0} (step : S → Record → S) where
  -- n records are taken, as long as they are sound
  unfoldable pub taken : ℕ → S → List ℕ → Feeding S
  taken zero x s = feeding Records x s
  taken (suc n) x s = on_entry (record_read_of s) x (λ r. taken n (step x r) (drop record_octets s))

  abbrev pub taken_behind : Result (Unit {0}) Refusal → S → List ℕ → Feeding S
  taken_behind (Ok tt) x s = taken (length s / record_octets) x s
  taken_behind (Err e) x s = feeding (Faulty e) x []

  -- what is taken of the octets that are there
  unfoldable pub taken_here : Phase → S → List ℕ → Feeding S
  taken_here Header x s = cond (ltb (length s) file_header_octets) (feeding Header x s) (taken_behind (header_of s) x (drop file_header_octets s))
  taken_here Records x s = taken_behind (Ok tt) x s
  taken_here (Faulty e) x s = feeding (Faulty e) x []

  -- the next piece comes after the octets that are left
  abbrev pub fed : Feeding S → List ℕ → Feeding S
  fed f piece = taken_here f.phase f.made (f.left ++ piece)

  -- all records of a file, in order
  abbrev pub all_taken : S → Result (List Record) Refusal → Result S Refusal
  all_taken x (Ok rs) = Ok (foldl step x rs)
  all_taken x (Err e) = Err e
