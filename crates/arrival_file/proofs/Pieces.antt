-- An arrival file that comes in pieces gives what the whole gives, wherever it is cut. Assumes nothing.
use Prim.Native.Nat.{ℕ, zero, suc, ◌/◌, ◌≤◌}
use mathlib.Core.Path.{◌≡◌, refl, sym, ap, ◌∙◌}
use mathlib.Core.Bool.{Bool, true, false, cond}
use mathlib.Core.List.{List, [], ◌∷◌, ◌++◌, append-nil, append_assoc, foldl, flatten}
use native.Mathlib.Omega.{arith}
use borrow.Author.Tests.{lt-ltb, le-ltb}
use lib.ListN.{length, drop, length-append, length-drop}
use lib.Dec.{eqb}
use lib.Seq.{drop-append-le}
use Rattle.std.specs.Prelude.{Result, Ok, Err}
use Rattle.lists.proofs.Cases.{split_le}
use Rattle.refusal.specs.declared.Refusal.{Refusal}
use Rattle.arrival_record.specs.Record.{record_read_of, record_octets}
use Rattle.arrival_record.specs.declared.Record.{Record}
use Rattle.arrival_file.specs.File.{header_of, record_first, records_of, behind, file_of, file_header_octets}
use Rattle.arrival_file.specs.Pieces.{Feeding, starting, result_of, ended, on_entry, taken, taken_behind, taken_here, fed, all_taken}
use Rattle.arrival_file.specs.declared.Phase.{Phase}
use Rattle.arrival_file.proofs.Fronts.{header_front, entry_front}
use Rattle.arrival_file.proofs.Headers.{too_short}
use Rattle.refusal.specs.declared.Refusal.TheVariants.{RecordCutShort}
use Rattle.arrival_file.specs.declared.Phase.TheVariants.{Header, Records, Faulty}

module _ {S : Type 0} (step : S → Record → S) where
  -- where one more record is there
  one_more : (s t : List ℕ) → record_octets ≤ length s → length (s ++ t) / record_octets ≡ suc (length (drop record_octets s ++ t) / record_octets)
  one_more s t h = omega (arith, length-append s t, length-append (drop record_octets s) t, length-drop record_octets s)

  taken_more : (n : ℕ) (x : S) (s t : List ℕ) → length s / record_octets ≡ n → taken step (length (s ++ t) / record_octets) x (s ++ t) ≡ fed step (taken step n x s) t
  unfolding taken taken_here
  taken_more zero x s t e = refl
  taken_more (suc n) x s t e =
      rw (one_more s t (omega arith), entry_front s t (omega arith), drop-append-le record_octets s t (omega arith))
      (go (record_read_of s) (λ r. taken_more n (step x r) (drop record_octets s) t (omega (arith, length-drop record_octets s))))
    where
      go : (y : Result Record Refusal)
          → ((r : Record) → taken step (length (drop record_octets s ++ t) / record_octets) (step x r) (drop record_octets s ++ t)
          ≡ fed step (taken step n (step x r) (drop record_octets s)) t)
          → on_entry y x (λ r. taken step (length (drop record_octets s ++ t) / record_octets) (step x r) (drop record_octets s ++ t))
          ≡ fed step (on_entry y x (λ r. taken step n (step x r) (drop record_octets s))) t
      go (Ok r) h = h r
      go (Err q) h = refl

  behind_more : (v : Result (Unit {0}) Refusal) (x : S) (s t : List ℕ) → taken_behind step v x (s ++ t) ≡ fed step (taken_behind step v x s) t
  unfolding taken_here
  behind_more (Ok tt) x s t = taken_more (length s / record_octets) x s t refl
  behind_more (Err e) x s t = refl

  taken_here_more : (p : Phase) (x : S) (s t : List ℕ) → taken_here step p x (s ++ t) ≡ fed step (taken_here step p x s) t
  unfolding taken_here
  taken_here_more Header x s t =
      split_le file_header_octets (length s)
      (λ h. rw (
        le-ltb (length (s ++ t)) file_header_octets (omega (arith, length-append s t)),
        le-ltb (length s) file_header_octets h,
        header_front s t h,
        drop-append-le file_header_octets s t h,
      )
      (behind_more (header_of s) x (drop file_header_octets s) t))
      (λ h. rw (lt-ltb (length s) file_header_octets h))
  taken_here_more Records x s t = behind_more (Ok tt) x s t
  taken_here_more (Faulty e) x s t = refl

  -- two pieces back to back are as good as one
  pub two_pieces : (f : Feeding S) (s t : List ℕ) → fed step f (s ++ t) ≡ fed step (fed step f s) t
  two_pieces f s t =
      ap (taken_here step f.phase f.made) (sym (append_assoc f.left s t))
      ∙ taken_here_more f.phase f.made (f.left ++ s) t

  more_pieces : (f : Feeding S) (s : List ℕ) (ps : List (List ℕ)) → foldl (fed step) (fed step f s) ps ≡ fed step f (s ++ flatten ps)
  unfolding flatten
  more_pieces f s [] = rw (append-nil s)
  more_pieces f s (p ∷ ps) =
      ap (λ (g : Feeding S). foldl (fed step) g ps) (sym (two_pieces f s p))
      ∙ more_pieces f (s ++ p) ps
      ∙ ap (fed step f) (append_assoc s p (flatten ps))

  -- all pieces are as good as the whole
  pub all_pieces : (x : S) (ps : List (List ℕ)) → foldl (fed step) (starting x) ps ≡ fed step (starting x) (flatten ps)
  unfolding taken_here
  all_pieces x ps = more_pieces (starting x) [] ps

  one_taken : (x : S) (r : Record) (f : Result (List Record) Refusal) → all_taken step (step x r) f ≡ all_taken step x (record_first (Ok r) f)
  one_taken x r (Ok rs) = refl
  one_taken x r (Err e) = refl

  none_taken : (b : Bool) (x : S) → result_of (cond b (Ok tt) (Err RecordCutShort)) x ≡ all_taken step x (cond b (Ok []) (Err RecordCutShort))
  none_taken true x = refl
  none_taken false x = refl

  taken_all : (n : ℕ) (x : S) (s : List ℕ) → ended (taken step n x s) ≡ all_taken step x (records_of n s)
  unfolding taken records_of
  taken_all zero x s = none_taken (eqb (length s) 0) x
  taken_all (suc n) x s = go (record_read_of s) (λ r. taken_all n (step x r) (drop record_octets s))
    where
      go : (y : Result Record Refusal)
          → ((r : Record) → ended (taken step n (step x r) (drop record_octets s)) ≡ all_taken step (step x r) (records_of n (drop record_octets s)))
          → ended (on_entry y x (λ r. taken step n (step x r) (drop record_octets s))) ≡ all_taken step x (record_first y (records_of n (drop record_octets s)))
      go (Ok r) h = h r ∙ one_taken x r (records_of n (drop record_octets s))
      go (Err q) h = refl

  behind_all : (v : Result (Unit {0}) Refusal) (x : S) (s : List ℕ) → ended (taken_behind step v x s) ≡ all_taken step x (behind v s)
  behind_all (Ok tt) x s = taken_all (length s / record_octets) x s
  behind_all (Err e) x s = refl

  whole_file : (x : S) (s : List ℕ) → ended (fed step (starting x) s) ≡ all_taken step x (file_of s)
  unfolding taken_here file_of
  whole_file x s =
      split_le file_header_octets (length s)
      (λ h. rw (le-ltb (length s) file_header_octets h) (behind_all (header_of s) x (drop file_header_octets s)))
      (λ h. rw (lt-ltb (length s) file_header_octets h, ← too_short s h))

  -- Wherever a file is cut: once all its pieces are fed, it has given what its records make, or its first fault.
  pub pieces : (x : S) (ps : List (List ℕ)) → ended (foldl (fed step) (starting x) ps) ≡ all_taken step x (file_of (flatten ps))
  pieces x ps = ap ended (all_pieces x ps) ∙ whole_file x (flatten ps)

  -- a file with a fault stays so, whatever comes after it
  pub stays_faulty : (f : Feeding S) (e : Refusal) (s : List ℕ) → f.phase ≡ Faulty e → ended (fed step f s) ≡ Err e
  unfolding taken_here
  stays_faulty f e s h = rw h

-- ---- each record put after those before it

abbrev listed : List Record → Record → List Record
listed rs r = rs ++ r ∷ []

all_listed : (rs qs : List Record) → foldl listed rs qs ≡ rs ++ qs
all_listed rs [] = sym (append-nil rs)
all_listed rs (q ∷ qs) = all_listed (listed rs q) qs ∙ append_assoc rs (q ∷ []) qs

keeps : (f : Result (List Record) Refusal) → all_taken listed [] f ≡ f
keeps (Ok rs) = ap Ok (all_listed [] rs)
keeps (Err e) = refl

-- the pieces of a file give its records, or its first fault
pub records_in_pieces : (ps : List (List ℕ)) → ended (foldl (fed listed) (starting []) ps) ≡ file_of (flatten ps)
records_in_pieces ps = pieces listed [] ps ∙ keeps (file_of (flatten ps))
