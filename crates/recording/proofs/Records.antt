-- Laws for the loop of `take_records`. Assumes nothing.
use Prim.Native.Nat.{ℕ, suc, ◌+◌, ◌-◌, ◌/◌, ◌<◌, ◌≤◌}
use mathlib.Core.Path.{◌≡◌, refl, ap, ◌∙◌}
use mathlib.Core.List.{List, [], ◌++◌}
use native.Mathlib.Omega.{arith}
use lib.ListN.{length, drop, length-append}
use Rattle.std.proofs.lemmas.List.{drop_at, drop-drop}
use Rattle.refusal.specs.declared.Refusal.{Refusal}
use Rattle.places.specs.After.{store_after}
use Rattle.arrivals.specs.Arrivals.{arrived}
use Rattle.std.specs.Prelude.{Result, Ok, Err}
use Rattle.admission.specs.declared.ArrivalKind.{ArrivalKind}
use Rattle.arrival_record.specs.Record.{record_read_of, record_octets}
use Rattle.arrival_record.specs.declared.Record.{Record}
use Rattle.arrival_file.proofs.Fronts.{entry_front}
use Rattle.arrival_file.specs.Pieces.{feeding, taken}
use Rattle.recording.specs.Recorded.{Recorded, recorded, last_known, gap_after, recorded_after, after_record}
use Rattle.arrival_file.specs.declared.Phase.TheVariants.{Records, Faulty}

-- where the octets after x begin in the whole, of which `rest` are left
pub left_behind : (s rest x t : List ℕ) → length rest ≤ length s → drop (length s - length rest) s ≡ rest → rest ≡ x ++ t
    → drop (length s - length t) s ≡ t
left_behind s rest x t h e m =
    let n : length rest ≡ length x + length t = ap length m ∙ length-append x t in
    let k : length s - length t ≡ length s - length rest + length x = omega arith in
    rw (k, ← drop-drop (length x) (length s - length rest) s, e, m) (drop_at x t (length x) refl)

-- a record x at the front of what is left, t behind it
module _ (x t : List ℕ) (whole : length x ≡ record_octets) where
  count_more : length (x ++ t) / record_octets ≡ suc (length t / record_octets)
  count_more = let n = length-append x t in omega arith

  front : record_read_of (x ++ t) ≡ record_read_of x
  front = entry_front x t (omega arith)

  behind : drop record_octets (x ++ t) ≡ t
  behind = drop_at x t record_octets whole

  pub turn_record : (places cells : List ℕ) (last gap : ℕ) (y : Result Record Refusal) (r : Record) (a : Result ArrivalKind Refusal) (places' cells' : List ℕ) (last' gap' : ℕ)
      → y ≡ record_read_of x → y ≡ Ok r
      → store_after a places' cells' ≡ arrived places cells r.ssrc r.number r.mark r.time
      → last' ≡ last_known last r.time → gap' ≡ gap_after gap a
      → taken after_record (length t / record_octets) (recorded places' cells' last' gap') t
      ≡ taken after_record (length (x ++ t) / record_octets) (recorded places cells last gap) (x ++ t)
  unfolding taken after_record
  turn_record places cells last gap y r a places' cells' last' gap' read e is known larger =
      let q : recorded places' cells' last' gap' ≡ after_record (recorded places cells last gap) r =
      ap (recorded places' cells' last') larger
      ∙ ap (λ o. recorded_after o last' gap) is
      ∙ ap (λ z. recorded_after (arrived places cells r.ssrc r.number r.mark r.time) z gap) known in
      rw (count_more, front, ← read, e, behind, q)

  pub turn_refused : (y : Result Record Refusal) (q : Refusal) (z : Recorded) → y ≡ record_read_of x → y ≡ Err q
      → taken after_record (length (x ++ t) / record_octets) z (x ++ t) ≡ feeding (Faulty q) z []
  unfolding taken
  turn_refused y q z read e = rw (count_more, front, ← read, e)

pub all_taken : (t : List ℕ) (z : Recorded) → length t < record_octets → taken after_record (length t / record_octets) z t ≡ feeding Records z t
unfolding taken
all_taken t z h = let n : length t / record_octets ≡ 0 = omega arith in rw n
