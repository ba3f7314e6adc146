-- The meaning of a cell, sentence by sentence. Assumes nothing.
use Prim.Native.Nat.{ℕ}
use mathlib.Core.Path.{◌≡◌, refl, sym, ap}
use mathlib.Core.Bool.{Bool, true, false, cond, ◌||◌}
use mathlib.Core.List.Memᴰ
use mathlib.Core.List.{List, [], ◌∷◌, Memᴰ}
use mathlib.Core.Logic.{⊎_elim}
use borrow.Author.Tests.{eq-eqb, ne_eqb}
use lib.Dec.{eqb}
use Rattle.lists.proofs.Cases.{never}
use Rattle.std.specs.Prelude.{Option, Some, None}
use Rattle.std.proofs.lemmas.Option.{same_Some}
use Rattle.history.specs.Meaning.{Entry, copies_of, any_ce, cell_of, cell_by, AsArrivals}
use Rattle.history.proofs.Copies.{copies_have, copies_are}
use Rattle.metric.specs.Metric.{congested}
use Rattle.metric.specs.declared.Arrived.{Arrived}

-- some copy carried ECN-CE
pub any_is : (cs : List Entry) (e : Entry) → Memᴰ e cs → e.mark ≡ congested → any_ce cs ≡ true
any_is [] e m q = absurd (Memᴰ.not-nil m)
any_is (c ∷ cs) e m q = ⊎_elim (λ h. here h) (λ h. there (eqb c.mark congested) (any_is cs e h q)) (Memᴰ.cases_cons m)
  where
    here : e ≡ c → (eqb c.mark congested || any_ce cs) ≡ true
    here h =
        let g : c.mark ≡ congested = rw (← h) q in
        rw (eq-eqb c.mark congested g)

    there : (b : Bool) → any_ce cs ≡ true → (b || any_ce cs) ≡ true
    there true t = refl
    there false t = t

pub any_not : (cs : List Entry) → ((e : Entry) → Memᴰ e cs → e.mark ≡ congested → ⊥) → any_ce cs ≡ false
any_not [] h = refl
any_not (c ∷ cs) h =
    rw (ne_eqb c.mark congested (h c (Memᴰ.head refl)))
    (any_not cs (λ e m. h e (Memᴰ.tail m)))

-- a cell by its copies
module _ (mark : ℕ) (time : Option ℕ) where
  cell_some : (cs : List Entry) → cell_of cs ≡ Some (record { mark = mark; time = time }) → (e : Entry) × Memᴰ e cs
  cell_some [] h = never (cc)
  cell_some (c ∷ cs) h = (c, Memᴰ.head refl)

  cell_time : (cs : List Entry) (e : Entry) (rest : List Entry) → cell_of cs ≡ Some (record { mark = mark; time = time }) → cs ≡ e ∷ rest → time ≡ e.time
  cell_time cs e rest h q =
      let g : Some (record { mark = cond (any_ce (e ∷ rest)) congested e.mark; time = e.time }) ≡ Some (record { mark = mark; time = time }) = rw q at h in
      ap (λ (a : Arrived). a.time) (same_Some _ _ (sym g))

  cell_ce : (cs : List Entry) (e : Entry) → cell_of cs ≡ Some (record { mark = mark; time = time }) → Memᴰ e cs → e.mark ≡ congested → mark ≡ congested
  cell_ce [] e h m q = absurd (Memᴰ.not-nil m)
  cell_ce (c ∷ cs) e h m q =
      let g : Some (record { mark = congested; time = c.time }) ≡ Some (record { mark = mark; time = time }) = rw (any_is (c ∷ cs) e m q) at h in
      ap (λ (a : Arrived). a.mark) (same_Some _ _ (sym g))

  cell_other : (cs : List Entry) (e : Entry) (rest : List Entry) → cell_of cs ≡ Some (record { mark = mark; time = time }) → cs ≡ e ∷ rest
      → ((d : Entry) → Memᴰ d cs → d.mark ≡ congested → ⊥) → mark ≡ e.mark
  cell_other cs e rest h q n =
      let k : Some (record { mark = cond (any_ce (e ∷ rest)) congested e.mark; time = e.time }) ≡ Some (record { mark = mark; time = time }) = rw q at h in
      let z : any_ce (e ∷ rest) ≡ false = any_not (e ∷ rest) (λ d m. n d (rw q m)) in
      let g : Some (record { mark = e.mark; time = e.time }) ≡ Some (record { mark = mark; time = time }) = rw z at k in
      ap (λ (a : Arrived). a.mark) (same_Some _ _ (sym g))

pub as_arrivals : (es : List Entry) (n : ℕ) → AsArrivals (cell_by es n) es n
as_arrivals es n = record {
  filled = λ e m q z. some (copies_of es n) e (copies_have n es e m q) z;
  only = λ mark time h. let s = cell_some mark time (copies_of es n) h in (s.0, copies_are n es s.0 s.1);
  first = λ mark time e rest h q. cell_time mark time (copies_of es n) e rest h q;
  ce = λ mark time e h m q c. cell_ce mark time (copies_of es n) e h (copies_have n es e m q) c;
  other = λ mark time e rest h q none. cell_other mark time (copies_of es n) e rest h q (λ d m. let a = copies_are n es d m in none d a.0 a.1);
}
  where
    some : (cs : List Entry) (e : Entry) → Memᴰ e cs → cell_of cs ≡ None → ⊥
    some [] e m z = Memᴰ.not-nil m
    some (c ∷ cs) e m z = never (cc)
