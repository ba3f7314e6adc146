-- Refusals 11 to 14 are given exactly when the rules say, and else the file gives its records. Assumes nothing.
use Prim.Native.Nat.{ℕ, zero, suc, ◌+◌, ◌*◌, ◌/◌, ◌<◌, ◌≤◌}
use mathlib.Core.Path.{◌≡◌, refl, sym, ap, ◌∙◌, subst}
use mathlib.Core.Logic.{◌↔◌}
use mathlib.Core.Bool.{true, false, or-true}
use mathlib.Core.List.{List, [], ◌∷◌}
use native.Mathlib.Omega.{arith}
use borrow.Author.Tests.{lt-ltb, le-ltb, eq-eqb, ne_eqb}
use lib.ListN.{length, get_or, take, drop, length-drop}
use lib.Seq.{get_or-take, drop-drop}
use Rattle.std.specs.Prelude.{Result, Ok, Err}
use Rattle.refusal.specs.declared.Refusal.{Refusal}
use Rattle.refusal.specs.declared.Refusal.TheVariants.{RecordCutShort, BadRecord}
use Rattle.lists.proofs.Cases.{never, split_le, split_eq}
use Rattle.octets.specs.Octets.{be16, be32}
use Rattle.metric.specs.Metric.{congested}
use Rattle.record_fault.specs.Fault.{is_faulty}
use Rattle.arrival_record.specs.Record.{record_of_is, record_octets}
use Rattle.arrival_record.specs.declared.Record.{Record}
use Rattle.arrival_record.proofs.Cases.{bad_record_lem, sound_record}
use Rattle.arrival_file.specs.File.{record_first, records_of, file_of, file_header_octets, file_version}
use Rattle.arrival_file.specs.Faults.{magic, FaultyRecord, SoundBefore, RecordsGive, Gives}
use Rattle.arrival_file.proofs.Headers.{too_short, wrong_a, wrong_r, wrong_l, wrong_version_lem, sound_header}

-- ---- a record

faulty_true : (t : List ℕ) → FaultyRecord t → is_faulty (get_or t 6 0) (get_or t 7 0) (be32 t 8) ≡ true
unfolding is_faulty
faulty_true t (FaultyRecord.mark h) = simp (lt-ltb congested (get_or t 6 0) h)
faulty_true t (FaultyRecord.flag h) = simp (lt-ltb 1 (get_or t 7 0) h, or-true)
faulty_true t (FaultyRecord.time h k) = simp (eq-eqb (get_or t 7 0) 0 h, ne_eqb (be32 t 8) 0 k, or-true)

-- a record has a fault, or its test says that it has none
record_cases : {P : Type 0} (t : List ℕ) → (FaultyRecord t → P) → (is_faulty (get_or t 6 0) (get_or t 7 0) (be32 t 8) ≡ false → P) → P
unfolding is_faulty
record_cases t bad good =
    split_le (get_or t 6 0) congested
    (λ m. split_le (get_or t 7 0) 1
    (λ f. split_eq (get_or t 7 0) 0
    (λ u. split_eq (be32 t 8) 0
    (λ z. good (simp (le-ltb congested (get_or t 6 0) m, le-ltb 1 (get_or t 7 0) f, eq-eqb (get_or t 7 0) 0 u, eq-eqb (be32 t 8) 0 z)))
    (λ z. bad (FaultyRecord.time u z)))
    (λ u. good (simp (le-ltb congested (get_or t 6 0) m, le-ltb 1 (get_or t 7 0) f, ne_eqb (get_or t 7 0) 0 u))))
    (λ f. bad (FaultyRecord.flag f)))
    (λ m. bad (FaultyRecord.mark m))

not_faulty : (t : List ℕ) → (FaultyRecord t → ⊥) → is_faulty (get_or t 6 0) (get_or t 7 0) (be32 t 8) ≡ false
not_faulty t h = record_cases t (λ b. absurd (h b)) (λ g. g)

-- ---- the records

module _ (s : List ℕ) where
  -- the first record has no fault
  sound_first : (at n : ℕ) → (FaultyRecord (drop at s) → ⊥) → at + record_octets ≤ length s
      → records_of (suc n) (drop at s) ≡ record_first (Ok (record_of_is (drop at s))) (records_of n (drop (at + record_octets) s))
  unfolding records_of
  sound_first at n ok l =
      rw (← sound_record (drop at s) (omega (arith, length-drop at s)) (not_faulty (drop at s) ok), drop-drop record_octets at s)

  faulty_first : (at n : ℕ) → FaultyRecord (drop at s) → at + record_octets ≤ length s → records_of (suc n) (drop at s) ≡ Err BadRecord
  unfolding records_of
  faulty_first at n bad l = rw (← bad_record_lem (drop at s) (omega (arith, length-drop at s)) (faulty_true (drop at s) bad))

  -- the same place, counted in another way
  same_place : (i j : ℕ) → i ≡ j → FaultyRecord (drop i s) → FaultyRecord (drop j s)
  same_place i j e bad = subst (λ k. FaultyRecord (drop k s)) e bad

  sound_more : (at k : ℕ) → (FaultyRecord (drop at s) → ⊥) → SoundBefore s (at + record_octets) k → SoundBefore s at (suc k)
  sound_more at k ok sb zero l bad = ok (same_place (at + record_octets * 0) at (omega arith) bad)
  sound_more at k ok sb (suc j) l bad = sb j (omega arith) (same_place (at + record_octets * suc j) (at + record_octets + record_octets * j) (omega arith) bad)

  sound_less : (at k : ℕ) → SoundBefore s at (suc k) → SoundBefore s (at + record_octets) k
  sound_less at k sb j l bad = sb (suc j) (omega arith) (same_place (at + record_octets + record_octets * j) (at + record_octets * suc j) (omega arith) bad)

  sound_here : (at k : ℕ) → SoundBefore s at (suc k) → FaultyRecord (drop at s) → ⊥
  sound_here at k sb bad = sb 0 (omega arith) (same_place at (at + record_octets * 0) (omega arith) bad)

  -- what is given starting at the second record is given starting at the first
  one_before : (at : ℕ) (f : Result (List Record) Refusal) → (FaultyRecord (drop at s) → ⊥) → RecordsGive s (at + record_octets) f
      → RecordsGive s at (record_first (Ok (record_of_is (drop at s))) f)
  one_before at f ok (RecordsGive.bad_record k sb l bad) =
      RecordsGive.bad_record (suc k) (sound_more at k ok sb) (omega arith) (same_place (at + record_octets + record_octets * k) (at + record_octets * suc k) (omega arith) bad)
  one_before at f ok (RecordsGive.cut_short_of k sb l m) = RecordsGive.cut_short_of (suc k) (sound_more at k ok sb) (omega arith) (omega arith)
  one_before at f ok (RecordsGive.whole rs sb e each) =
      RecordsGive.whole (record_of_is (drop at s) ∷ rs) (sound_more at (length rs) ok sb) (omega arith) all
    where
      place : (i j : ℕ) → i ≡ j → record_of_is (drop i s) ≡ record_of_is (drop j s)
      place i j e = ap (λ k. record_of_is (drop k s)) e

      all : (k : ℕ) (d : Record) → k < suc (length rs) → get_or (record_of_is (drop at s) ∷ rs) k d ≡ record_of_is (drop (at + record_octets * k) s)
      all zero d l = place at (at + record_octets * 0) (omega arith)
      all (suc k) d l = each k d (omega arith) ∙ place (at + record_octets + record_octets * k) (at + record_octets * suc k) (omega arith)

  records_give : (n at : ℕ) → length (drop at s) / record_octets ≡ n → at ≤ length s → RecordsGive s at (records_of n (drop at s))
  unfolding records_of
  records_give zero at e l =
      split_le (length s) at
      (λ h. rw (eq-eqb (length (drop at s)) 0 (omega (arith, length-drop at s)))
      (RecordsGive.whole [] (λ j z. absurd (omega arith)) (omega arith) (λ k d z. absurd (omega arith))))
      (λ h. rw (ne_eqb (length (drop at s)) 0 (λ z. omega (arith, length-drop at s)))
      (RecordsGive.cut_short_of 0 (λ j z. absurd (omega arith)) (omega arith) (omega (arith, length-drop at s))))
  records_give (suc n) at e l =
      record_cases (drop at s)
      (λ bad. rw (faulty_first at n bad (omega (arith, length-drop at s)))
      (RecordsGive.bad_record 0 (λ j z. absurd (omega arith)) (omega (arith, length-drop at s)) (same_place at (at + record_octets * 0) (omega arith) bad)))
      (λ good.
      let ok : FaultyRecord (drop at s) → ⊥ = λ bad. let u = faulty_true (drop at s) bad in never (cc) in
      rw (sound_first at n ok (omega (arith, length-drop at s)))
      (one_before at (records_of n (drop (at + record_octets) s)) ok
      (records_give n (at + record_octets) (omega (arith, length-drop at s, length-drop (at + record_octets) s)) (omega (arith, length-drop at s)))))

  -- ---- and nothing else is given

  bad_is : (k n at : ℕ) → length (drop at s) / record_octets ≡ n → SoundBefore s at k → at + record_octets * (k + 1) ≤ length s
      → FaultyRecord (drop (at + record_octets * k) s) → records_of n (drop at s) ≡ Err BadRecord
  bad_is k zero at e sb l bad = absurd (omega (arith, length-drop at s))
  bad_is zero (suc n) at e sb l bad = faulty_first at n (same_place (at + record_octets * 0) at (omega arith) bad) (omega arith)
  bad_is (suc k) (suc n) at e sb l bad =
      sound_first at n (sound_here at k sb) (omega arith)
      ∙ ap (record_first (Ok (record_of_is (drop at s))))
      (bad_is k n (at + record_octets) (omega (arith, length-drop at s, length-drop (at + record_octets) s)) (sound_less at k sb)
      (omega arith) (same_place (at + record_octets * suc k) (at + record_octets + record_octets * k) (omega arith) bad))

  cut_is : (k n at : ℕ) → length (drop at s) / record_octets ≡ n → SoundBefore s at k → at + record_octets * k < length s
      → length s < at + record_octets * (k + 1) → records_of n (drop at s) ≡ Err RecordCutShort
  unfolding records_of
  cut_is zero zero at e sb l m = rw (ne_eqb (length (drop at s)) 0 (λ z. omega (arith, length-drop at s)))
  cut_is zero (suc n) at e sb l m = absurd (omega (arith, length-drop at s))
  cut_is (suc k) zero at e sb l m = absurd (omega (arith, length-drop at s))
  cut_is (suc k) (suc n) at e sb l m =
      sound_first at n (sound_here at k sb) (omega arith)
      ∙ ap (record_first (Ok (record_of_is (drop at s))))
      (cut_is k n (at + record_octets) (omega (arith, length-drop at s, length-drop (at + record_octets) s)) (sound_less at k sb) (omega arith) (omega arith))

  whole_is : (rs : List Record) (n at : ℕ) → length (drop at s) / record_octets ≡ n → SoundBefore s at (length rs) → length s ≡ at + record_octets * length rs
      → ((k : ℕ) (d : Record) → k < length rs → get_or rs k d ≡ record_of_is (drop (at + record_octets * k) s)) → records_of n (drop at s) ≡ Ok rs
  unfolding records_of
  whole_is [] zero at e sb l each = rw (eq-eqb (length (drop at s)) 0 (omega (arith, length-drop at s)))
  whole_is [] (suc n) at e sb l each = absurd (omega (arith, length-drop at s))
  whole_is (r ∷ rs) zero at e sb l each = absurd (omega (arith, length-drop at s))
  whole_is (r ∷ rs) (suc n) at e sb l each =
      let first : r ≡ record_of_is (drop at s) = each 0 r (omega arith) ∙ ap (λ i. record_of_is (drop i s)) (start 0) in
      sound_first at n (sound_here at (length rs) sb) (omega arith)
      ∙ ap (record_first (Ok (record_of_is (drop at s))))
      (whole_is rs n (at + record_octets) (omega (arith, length-drop at s, length-drop (at + record_octets) s)) (sound_less at (length rs) sb) (omega arith)
      (λ k d h. each (suc k) d (omega arith) ∙ ap (λ i. record_of_is (drop i s)) (next k)))
      ∙ ap (λ q. Ok (q ∷ rs)) (sym first)
    where
      start : (k : ℕ) → at + record_octets * 0 ≡ at
      start k = omega arith

      next : (k : ℕ) → at + record_octets * suc k ≡ at + record_octets + record_octets * k
      next k = omega arith

  gives_is : (at : ℕ) (f : Result (List Record) Refusal) → RecordsGive s at f → records_of (length (drop at s) / record_octets) (drop at s) ≡ f
  gives_is at f (RecordsGive.bad_record k sb l bad) = bad_is k (length (drop at s) / record_octets) at refl sb l bad
  gives_is at f (RecordsGive.cut_short_of k sb l m) = cut_is k (length (drop at s) / record_octets) at refl sb l m
  gives_is at f (RecordsGive.whole rs sb l each) = whole_is rs (length (drop at s) / record_octets) at refl sb l each

-- ---- the header

magic_octet : (s : List ℕ) (i : ℕ) → i < 3 → take 3 s ≡ magic → get_or s i 0 ≡ get_or magic i 0
magic_octet s i h e = sym (get_or-take 3 s i 0 h) ∙ ap (λ t. get_or t i 0) e

magic_of : (s : List ℕ) → 3 ≤ length s → get_or s 0 0 ≡ 0x41 → get_or s 1 0 ≡ 0x52 → get_or s 2 0 ≡ 0x4C → take 3 s ≡ magic
magic_of [] l a r x = absurd (omega arith)
magic_of (p ∷ []) l a r x = absurd (omega arith)
magic_of (p ∷ q ∷ []) l a r x = absurd (omega arith)
magic_of (p ∷ q ∷ o ∷ s) l a r x = rw (a, r, x)

module _ (s : List ℕ) where
  gives_file : Gives s (file_of s)
  unfolding file_of
  gives_file =
      split_le file_header_octets (length s)
      (λ l. split_eq (get_or s 0 0) 0x41
      (λ a. split_eq (get_or s 1 0) 0x52
      (λ r. split_eq (get_or s 2 0) 0x4C
      (λ x. let m = magic_of s (omega arith) a r x in
      split_eq (be16 s 3) file_version
      (λ v. rw (← sound_header s l a r x v) (Gives.records l m v (records_give s (length (drop file_header_octets s) / record_octets) file_header_octets refl l)))
      (λ v. rw (← wrong_version_lem s l a r x v) (Gives.wrong_version l m v)))
      (λ x. rw (← wrong_l s l a r x) (Gives.wrong_magic l (λ m. x (magic_octet s 2 (omega arith) m)))))
      (λ r. rw (← wrong_r s l a r) (Gives.wrong_magic l (λ m. r (magic_octet s 1 (omega arith) m)))))
      (λ a. rw (← wrong_a s l a) (Gives.wrong_magic l (λ m. a (magic_octet s 0 (omega arith) m)))))
      (λ l. rw (← too_short s l) (Gives.too_short_of l))

  file_is : (f : Result (List Record) Refusal) → Gives s f → file_of s ≡ f
  unfolding file_of
  file_is f (Gives.too_short_of l) = rw (← too_short s l)
  file_is f (Gives.wrong_magic l n) =
      split_eq (get_or s 0 0) 0x41
      (λ a. split_eq (get_or s 1 0) 0x52
      (λ r. split_eq (get_or s 2 0) 0x4C
      (λ x. absurd (n (magic_of s (omega arith) a r x)))
      (λ x. rw (← wrong_l s l a r x)))
      (λ r. rw (← wrong_r s l a r)))
      (λ a. rw (← wrong_a s l a))
  file_is f (Gives.wrong_version l m v) =
      rw (← wrong_version_lem s l (magic_octet s 0 (omega arith) m) (magic_octet s 1 (omega arith) m) (magic_octet s 2 (omega arith) m) v)
  file_is f (Gives.records l m v g) =
      rw (← sound_header s l (magic_octet s 0 (omega arith) m) (magic_octet s 1 (omega arith) m) (magic_octet s 2 (omega arith) m) v)
      (gives_is s file_header_octets f g)

  -- what a file gives is given exactly when the rules say
  pub exactly : (f : Result (List Record) Refusal) → (file_of s ≡ f) ↔ Gives s f
  exactly f = (λ e. subst (Gives s) e gives_file, file_is f)
