-- The records of a file of octets are in range. Assumes nothing.
use Prim.Native.Nat.{ℕ, zero, suc, ◌/◌, ◌<◌, ◌≤◌}
use mathlib.Core.Path.{◌≡◌, refl, subst}
use mathlib.Core.Bool.{Bool, true, false, cond, not}
use mathlib.Core.List.{List, [], ◌∷◌, map}
use borrow.Author.Tests.{lt-ltb}
use lib.Dec.{eqb}
use lib.ListN.{length, get_or, drop}
use Rattle.lists.specs.All.{All}
use Rattle.lists.proofs.Cases.{never, split_le}
use Rattle.octets.specs.Octets.{be32, Octets}
use Rattle.octets.proofs.Small.{less_32, octets_from, less_16}
use Rattle.metric.specs.Metric.{TimeInRange, time_of, times, congested}
use Rattle.history.specs.Calls.{Call, arrive, CallInRange}
use Rattle.record_fault.specs.Fault.{is_faulty}
use Rattle.arrival_record.specs.Record.{record_of_is, record_read_of, record_octets}
use Rattle.arrival_record.specs.declared.Record.{Record}
use Rattle.std.specs.Prelude.{Result, Ok, Err}
use Rattle.refusal.specs.declared.Refusal.{Refusal}
use Rattle.arrival_record.proofs.Cases.{cut_short, bad_record_lem, sound_record}
use Rattle.arrival_file.specs.File.{header_of, record_first, records_of, behind, file_of, file_header_octets}
use Rattle.refusal.specs.declared.Refusal.TheVariants.{RecordCutShort}

-- ---- records

-- a record as a call of the store
abbrev pub call_of : Record → Call
call_of r = arrive r.ssrc r.number r.mark r.time

-- what the fields of a record that was read can be
abbrev pub InRange : Record → Type 0
InRange r = (r.mark ≤ congested) × CallInRange (call_of r)

low_mark : (mark flag time : ℕ) → is_faulty mark flag time ≡ false → mark ≤ congested
unfolding is_faulty
low_mark mark flag time e =
    split_le mark congested (λ h. h) (λ h. let t : is_faulty mark flag time ≡ true = simp (lt-ltb congested mark h) in never (cc))

time_below : (known : Bool) (time : ℕ) → time < times → TimeInRange (time_of known time)
time_below true time h = h
time_below false time h = tt

record_of : (t : List ℕ) → Octets t → is_faulty (get_or t 6 0) (get_or t 7 0) (be32 t 8) ≡ false → InRange (record_of_is t)
record_of t o e =
    (low_mark (get_or t 6 0) (get_or t 7 0) (be32 t 8) e, (less_32 t o 0, (less_16 t o 4, time_below (not (eqb (get_or t 7 0) 0)) (be32 t 8) (less_32 t o 8))))

entry_range : (t : List ℕ) (r : Record) → Octets t → record_read_of t ≡ Ok r → InRange r
entry_range t r o e =
    split_le record_octets (length t)
    (λ h. go h (is_faulty (get_or t 6 0) (get_or t 7 0) (be32 t 8)) refl)
    (λ h. let c = cut_short t h in never (cc))
  where
    go : record_octets ≤ length t → (b : Bool) → is_faulty (get_or t 6 0) (get_or t 7 0) (be32 t 8) ≡ b → InRange r
    go h true f = let c = bad_record_lem t h f in never (cc)
    go h false f = let c = sound_record t h f in let z : record_of_is t ≡ r = cc in subst InRange z (record_of t o f)

records_range : (n : ℕ) (t : List ℕ) (rs : List Record) → Octets t → records_of n t ≡ Ok rs → All InRange rs
unfolding records_of
records_range zero t rs o e = go (eqb (length t) 0) e
  where
    go : (b : Bool) → cond b (Ok []) (Err RecordCutShort) ≡ Ok rs → All InRange rs
    go true f = let z : ◌≡◌ {A = List Record} [] rs = cc in subst (All InRange) z tt
    go false f = never (cc)
records_range (suc n) t rs o e =
    go (record_read_of t) (records_of n (drop record_octets t)) e (λ r f. entry_range t r o f) (λ qs f. records_range n (drop record_octets t) qs (octets_from record_octets t o) f)
  where
    go : (y : Result Record Refusal) (f : Result (List Record) Refusal) → record_first y f ≡ Ok rs
        → ((r : Record) → y ≡ Ok r → InRange r) → ((qs : List Record) → f ≡ Ok qs → All InRange qs) → All InRange rs
    go (Ok r) (Ok qs) g p q = let z : ◌≡◌ {A = List Record} (r ∷ qs) rs = cc in subst (All InRange) z (p r refl, q qs refl)
    go (Ok r) (Err x) g p q = never (cc)
    go (Err x) f g p q = never (cc)

pub file_range : (s : List ℕ) (rs : List Record) → Octets s → file_of s ≡ Ok rs → All InRange rs
unfolding file_of
file_range s rs o e = go (header_of s) e
  where
    go : (v : Result (Unit {0}) Refusal) → behind v (drop file_header_octets s) ≡ Ok rs → All InRange rs
    go (Ok tt) f = records_range (length (drop file_header_octets s) / record_octets) (drop file_header_octets s) rs (octets_from file_header_octets s o) f
    go (Err x) f = never (cc)

pub calls_range : (rs : List Record) → All InRange rs → All CallInRange (map call_of rs)
calls_range [] h = tt
calls_range (r ∷ rs) h = (h.0.1, calls_range rs h.1)
