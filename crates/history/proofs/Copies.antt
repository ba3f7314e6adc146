-- What one more accepted arrival makes of a cell's meaning. Assumes nothing.
use Prim.Native.Nat.{ℕ}
use mathlib.Core.Path.{◌≡◌, refl, sym, ap, ◌∙◌}
use mathlib.Core.Bool.{Bool, true, false, cond, ◌||◌}
use mathlib.Core.List.{List, [], ◌∷◌, ◌++◌, Memᴰ}
use mathlib.Core.Logic.{⊎_elim}
use native.Mathlib.Decide.{ℕ_discrete}
use borrow.Author.Tests.{eq-eqb, ne_eqb}
use lib.Dec.{eqb}
use Rattle.lists.specs.All.{All}
use Rattle.std.specs.Prelude.{Option, Some, None}
use Rattle.metric.specs.declared.Arrived.{Arrived}
use Rattle.cells.specs.Cell.{folded_mark}
use Rattle.history.specs.Meaning.{Entry, copies_of, any_ce, cell_of, cell_by}
use Rattle.metric.specs.Metric.{congested}

-- an arrival at an empty cell, and a copy
abbrev pub after_copy : Option Arrived → ℕ → Option ℕ → Option Arrived
after_copy None mark time = Some (record { mark = mark; time = time })
after_copy (Some a) mark time = Some (record { mark = folded_mark a.mark mark; time = a.time })

or_assoc : (a b c : Bool) → (a || (b || c)) ≡ ((a || b) || c)
or_assoc true b c = refl
or_assoc false b c = refl

any_append : (cs : List Entry) (e : Entry) → any_ce (cs ++ (e ∷ [])) ≡ (any_ce cs || eqb e.mark congested)
any_append [] e = last (eqb e.mark congested)
  where
    last : (b : Bool) → (b || false) ≡ b
    last true = refl
    last false = refl
any_append (c ∷ cs) e = rw (any_append cs e, or_assoc)

mark_fold : (b : Bool) (held copy : ℕ) → cond (b || eqb copy congested) congested held ≡ folded_mark (cond b congested held) copy
unfolding folded_mark
mark_fold true held copy = elim (ℕ_discrete copy congested) [ yes e ↦ simp (eq-eqb copy congested e) | no e ↦ simp (ne_eqb copy congested e) ]
mark_fold false held copy = refl

-- the first arrival's mark is its own
mark_first : (mark : ℕ) → cond (eqb mark congested || false) congested mark ≡ mark
mark_first mark = elim (ℕ_discrete mark congested) [ yes e ↦ simp (eq-eqb mark congested e) (sym e) | no e ↦ simp (ne_eqb mark congested e) ]

pub cell_append : (cs : List Entry) (e : Entry) → cell_of (cs ++ (e ∷ [])) ≡ after_copy (cell_of cs) e.mark e.time
cell_append [] e = rw (mark_first e.mark)
cell_append (c ∷ cs) e =
    ap (λ (m : ℕ). Some (record { mark = m; time = c.time }))
    (ap (λ (b : Bool). cond b congested c.mark) (any_append (c ∷ cs) e) ∙ mark_fold (any_ce (c ∷ cs)) c.mark e.mark)

module _ (e : Entry) (n : ℕ) where
  copies_same : e.full ≡ n → (es : List Entry) → copies_of (es ++ (e ∷ [])) n ≡ copies_of es n ++ (e ∷ [])
  unfolding copies_of
  copies_same q [] = simp (eq-eqb e.full n q)
  copies_same q (x ∷ es) =
      rw (copies_same q es) (elim (ℕ_discrete x.full n) [ yes g ↦ simp (eq-eqb x.full n g) | no g ↦ simp (ne_eqb x.full n g) ])

  copies_other : (e.full ≡ n → ⊥) → (es : List Entry) → copies_of (es ++ (e ∷ [])) n ≡ copies_of es n
  unfolding copies_of
  copies_other q [] = simp (ne_eqb e.full n q)
  copies_other q (x ∷ es) = rw (copies_other q es)

  pub by_same : e.full ≡ n → (es : List Entry) → cell_by (es ++ (e ∷ [])) n ≡ after_copy (cell_by es n) e.mark e.time
  by_same q es = ap cell_of (copies_same q es) ∙ cell_append (copies_of es n) e

  pub by_other : (e.full ≡ n → ⊥) → (es : List Entry) → cell_by (es ++ (e ∷ [])) n ≡ cell_by es n
  by_other q es = ap cell_of (copies_other q es)

-- arrivals of other full numbers leave the cell empty
pub by_none : (n : ℕ) (es : List Entry) → All (λ (e : Entry). e.full ≡ n → ⊥) es → cell_by es n ≡ None
unfolding copies_of
by_none n [] h = refl
by_none n (e ∷ es) h = rw (ne_eqb e.full n h.0) (by_none n es h.1)

module _ (n : ℕ) where
  -- the copies are the entries of the full number n
  pub copies_have : (es : List Entry) (e : Entry) → Memᴰ e es → e.full ≡ n → Memᴰ e (copies_of es n)
  unfolding copies_of
  copies_have [] e m q = absurd (mathlib.Core.List.Memᴰ.not-nil m)
  copies_have (x ∷ es) e m q = ⊎_elim (λ h. here h) (λ h. there (copies_have es e h q)) (mathlib.Core.List.Memᴰ.cases_cons m)
    where
      here : e ≡ x → Memᴰ e (cond (eqb x.full n) (x ∷ copies_of es n) (copies_of es n))
      here h =
          let g : x.full ≡ n = rw (← h) q in
          rw (eq-eqb x.full n g) (mathlib.Core.List.Memᴰ.head h)

      there : Memᴰ e (copies_of es n) → Memᴰ e (cond (eqb x.full n) (x ∷ copies_of es n) (copies_of es n))
      there m = elim (ℕ_discrete x.full n) [ yes g ↦ rw (eq-eqb x.full n g) (mathlib.Core.List.Memᴰ.tail m) | no g ↦ rw (ne_eqb x.full n g) m ]

  pub copies_are : (es : List Entry) (e : Entry) → Memᴰ e (copies_of es n) → Memᴰ e es × (e.full ≡ n)
  unfolding copies_of
  copies_are [] e m = absurd (mathlib.Core.List.Memᴰ.not-nil m)
  copies_are (x ∷ es) e m = split m (λ h. copies_are es e h)
    where
      later : Memᴰ e es × (e.full ≡ n) → Memᴰ e (x ∷ es) × (e.full ≡ n)
      later h = (mathlib.Core.List.Memᴰ.tail h.0, h.1)

      split : Memᴰ e (cond (eqb x.full n) (x ∷ copies_of es n) (copies_of es n)) → (Memᴰ e (copies_of es n) → Memᴰ e es × (e.full ≡ n))
          → Memᴰ e (x ∷ es) × (e.full ≡ n)
      split m more =
          elim (ℕ_discrete x.full n) [
            | yes g ↦
                let c : Memᴰ e (x ∷ copies_of es n) = rw (eq-eqb x.full n g) at m in
                ⊎_elim (λ h. (mathlib.Core.List.Memᴰ.head h, rw h g)) (λ h. later (more h)) (mathlib.Core.List.Memᴰ.cases_cons c)
            | no g ↦ later (more (rw (ne_eqb x.full n g) at m))
          ]
