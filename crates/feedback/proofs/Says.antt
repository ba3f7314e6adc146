-- What the accepted arrivals say of a full number, rule by rule, is what the reader sees of its cell. Assumes nothing.
use Prim.Native.Nat.{ℕ, ◌/◌, ◌%◌, ◌≤◌, ◌<◌}
use mathlib.Core.Path.{◌≡◌, refl, sym, ap, ◌∙◌}
use mathlib.Core.Bool.{Bool, true, false, cond, ◌||◌, false≢true, true≢false}
use mathlib.Core.List.Memᴰ
use mathlib.Core.List.{List, [], ◌∷◌, ◌++◌, Memᴰ}
use mathlib.Core.Logic.{⊎_elim}
use native.Mathlib.Omega.{arith}
use native.Mathlib.Decide.{ℕ_discrete}
use borrow.Author.Tests.{eq-eqb, ne_eqb, eqb-true, lt-ltb, le-ltb, lt-leb, le-leb}
use lib.Dec.{eqb}
use Rattle.lists.specs.All.{All}
use Rattle.lists.proofs.All.{all_right}
use Rattle.lists.proofs.Cases.{never, split_le}
use Rattle.metric.specs.Metric.{age_of, longest_age, offset_unit, after_rts, congested, seen_at_age, seen_of}
use Rattle.std.specs.Prelude.{Option, Some, None}
use Rattle.metric.specs.declared.Metric.{Metric}
use Rattle.history.specs.Meaning.{Entry, copies_of, any_ce, cell_of, cell_by, EntryInRange}
use Rattle.history.proofs.Copies.{copies_have, copies_are}
use Rattle.history.proofs.Filled.{any_is, any_not}
use Rattle.feedback.specs.Reported.{NoneHad, First, CarriedCE, MarkOf, carried, firsts, Says, missing, received, long_ago, afterwards, untimed}
use Rattle.metric.specs.declared.Metric.TheVariants.{NotReceived, Received, OverRange, NoTime}

-- ---- the first copy
module _ (n : ℕ) where
  none_nil : NoneHad [] n
  none_nil d m h = Memᴰ.not-nil m

  none_cons : (x : Entry) (es : List Entry) → (x.full ≡ n → ⊥) → NoneHad es n → NoneHad (x ∷ es) n
  none_cons x es g none d m h = ⊎_elim (λ (q : d ≡ x). g (rw (← q) h)) (λ r. none d r h) (Memᴰ.cases_cons m)

  copies_first : (es : List Entry) (e : Entry) (rest : List Entry) → copies_of es n ≡ e ∷ rest → First es n e
  unfolding copies_of
  copies_first [] e rest q = never (cc)
  copies_first (x ∷ es) e rest q =
      elim (ℕ_discrete x.full n) [
        | yes g ↦
            let c : x ∷ copies_of es n ≡ e ∷ rest = rw (eq-eqb x.full n g) at q in
            let s : x ≡ e = cc in
            record {
              before = [];
              after = es;
              order = ap (λ (y : Entry). y ∷ es) s;
              earlier = none_nil;
              full = rw (← s) g;
            }
        | no g ↦ later x es e g (copies_first es e rest (rw (ne_eqb x.full n g) at q))
      ]
    where
      later : (x : Entry) (es : List Entry) (e : Entry) → (x.full ≡ n → ⊥) → First es n e → First (x ∷ es) n e
      later x es e g f = record {
        before = x ∷ f.before;
        after = f.after;
        order = ap (λ (l : List Entry). x ∷ l) f.order;
        earlier = none_cons x f.before g f.earlier;
        full = f.full;
      }

  copies_past : (before after : List Entry) (e : Entry) → NoneHad before n → e.full ≡ n → copies_of (before ++ (e ∷ after)) n ≡ e ∷ copies_of after n
  unfolding copies_of
  copies_past [] after e none g = rw (eq-eqb e.full n g)
  copies_past (x ∷ before) after e none g =
      rw (ne_eqb x.full n (none x (Memᴰ.head refl)))
      (copies_past before after e (λ d m h. none d (Memᴰ.tail m) h) g)

  first_copies : (es : List Entry) (e : Entry) → First es n e → (rest : List Entry) × (copies_of es n ≡ e ∷ rest)
  first_copies es e f = (copies_of f.after n, ap (λ (l : List Entry). copies_of l n) f.order ∙ copies_past f.before f.after e f.earlier f.full)

-- ---- the mark
any_was : (cs : List Entry) → any_ce cs ≡ true → (d : Entry) × (Memᴰ d cs × (d.mark ≡ congested))
any_was [] t = absurd (false≢true t)
any_was (c ∷ cs) t = by_test (eqb c.mark congested) refl (λ r. any_was cs r) t
  where
    by_test : (b : Bool) → eqb c.mark congested ≡ b → (any_ce cs ≡ true → (d : Entry) × (Memᴰ d cs × (d.mark ≡ congested)))
        → (b || any_ce cs) ≡ true → (d : Entry) × (Memᴰ d (c ∷ cs) × (d.mark ≡ congested))
    by_test true e rec t = (c, (Memᴰ.head refl, eqb-true c.mark congested e))
    by_test false e rec t = let r = rec t in (r.0, (Memᴰ.tail r.1.0, r.1.1))

module _ (es : List Entry) (n : ℕ) (e : Entry) (rest : List Entry) (q : copies_of es n ≡ e ∷ rest) where
  carried_copy : (d : Entry) → CarriedCE es n d → any_ce (e ∷ rest) ≡ true
  carried_copy d c = any_is (e ∷ rest) d (rw q at (copies_have n es d c.accepted c.full)) c.mark

  copy_carried : (d : Entry) → Memᴰ d (e ∷ rest) → d.mark ≡ congested → CarriedCE es n d
  copy_carried d m k = let a = copies_are n es d (rw q m) in record { accepted = a.0; full = a.1; mark = k }

  -- the mark of the cell is the one that the rules say
  marked : MarkOf es n e (cond (any_ce (e ∷ rest)) congested e.mark)
  marked = by_test (any_ce (e ∷ rest)) refl
    where
      by_test : (b : Bool) → any_ce (e ∷ rest) ≡ b → MarkOf es n e (cond b congested e.mark)
      by_test true t = let d = any_was (e ∷ rest) t in carried d.0 (copy_carried d.0 d.1.0 d.1.1)
      by_test false t = firsts (λ d c. true≢false (sym (carried_copy d c) ∙ t))

  -- and no other
  mark_is : (mark : ℕ) → MarkOf es n e mark → cond (any_ce (e ∷ rest)) congested e.mark ≡ mark
  mark_is mark (carried d c) = rw (carried_copy d c)
  mark_is mark (firsts none) = rw (any_not (e ∷ rest) (λ d m k. none d (copy_carried d m k)))

-- ---- the case of an age
module _ (mark age : ℕ) where
  at_offset : age ≤ longest_age → seen_at_age mark age ≡ Received mark (age / offset_unit)
  unfolding seen_at_age
  at_offset l = rw (lt-leb after_rts age (omega arith), le-ltb longest_age age l)

  at_long : longest_age < age → age < after_rts → seen_at_age mark age ≡ OverRange mark
  unfolding seen_at_age
  at_long l h = rw (lt-leb after_rts age h, lt-ltb longest_age age l)

  at_after : after_rts ≤ age → seen_at_age mark age ≡ NoTime mark
  unfolding seen_at_age
  at_after l = rw (le-leb after_rts age l)

module _ (es : List Entry) (n rts : ℕ) where
  -- what is seen of a cell with the first copy's time and the mark of the rules
  module _ (e : Entry) (mark : ℕ) (f : First es n e) (k : MarkOf es n e mark) where
    at_time : (t : ℕ) → e.time ≡ Some t → Says es n rts (seen_at_age mark (age_of rts t))
    at_time t q =
        split_le after_rts (age_of rts t)
        (λ l. rw (at_after mark (age_of rts t) l) (afterwards e t mark f k q (omega arith)))
        (λ l. split_le (age_of rts t) longest_age
        (λ i. rw (at_offset mark (age_of rts t) i) (received e t mark f k q (omega arith)))
        (λ o. rw (at_long mark (age_of rts t) o l) (long_ago e t mark f k q (omega arith) (omega arith))))

    at_cell : (time : Option ℕ) → e.time ≡ time → mark ≤ congested → Says es n rts (seen_of (Some (record { mark = mark; time = time })) rts)
    at_cell None q b = let z : mark % 4 ≡ mark = omega arith in rw z (untimed e mark f k q)
    at_cell (Some t) q b = let z : mark % 4 ≡ mark = omega arith in rw z (at_time t q)

  module _ (range : All EntryInRange es) where
    mark_low : (e : Entry) (mark : ℕ) → First es n e → MarkOf es n e mark → mark ≤ congested
    mark_low e mark f (carried d c) = omega arith
    mark_low e mark f (firsts none) = (all_right EntryInRange f.before (e ∷ f.after) (rw f.order at range)).0.1.0

    -- what is seen of the cell of a full number is what the accepted arrivals say of it
    pub says_seen : Says es n rts (seen_of (cell_by es n) rts)
    says_seen = by_copies (copies_of es n) refl
      where
        by_copies : (cs : List Entry) → copies_of es n ≡ cs → Says es n rts (seen_of (cell_of cs) rts)
        by_copies [] q = missing (λ e m g. Memᴰ.not-nil (rw q at (copies_have n es e m g)))
        by_copies (e ∷ rest) q =
            let f = copies_first n es e rest q in
            let k = marked es n e rest q in
            at_cell e (cond (any_ce (e ∷ rest)) congested e.mark) f k e.time refl
            (mark_low e (cond (any_ce (e ∷ rest)) congested e.mark) f k)

    cell_said : (e : Entry) (mark : ℕ) (time : Option ℕ) → First es n e → MarkOf es n e mark → e.time ≡ time
        → (cell_by es n ≡ Some (record { mark = mark; time = time })) × (mark % 4 ≡ mark)
    cell_said e mark time f k q =
        let c = first_copies n es e f in
        let low = mark_low e mark f k in (
          ap cell_of c.1 ∙ ap (λ (m : ℕ). Some (record { mark = m; time = e.time })) (mark_is es n e c.0 c.1 mark k) ∙ ap (λ (t : Option ℕ). Some (record { mark = mark; time = t })) q,
          omega arith,
        )

    -- and they say no other case
    pub says_only : (m : Metric) → Says es n rts m → seen_of (cell_by es n) rts ≡ m
    says_only m (missing none) = by_copies (copies_of es n) refl
      where
        by_copies : (cs : List Entry) → copies_of es n ≡ cs → seen_of (cell_of cs) rts ≡ NotReceived
        by_copies [] q = refl
        by_copies (e ∷ rest) q = let a = copies_are n es e (rw q (Memᴰ.head refl)) in absurd (none e a.0 a.1)
    says_only m (received e t mark f k q l) =
        let c = cell_said e mark (Some t) f k q in
        rw (c.0, c.1) (at_offset mark (age_of rts t) (omega arith))
    says_only m (long_ago e t mark f k q l h) =
        let c = cell_said e mark (Some t) f k q in
        rw (c.0, c.1) (at_long mark (age_of rts t) (omega arith) (omega arith))
    says_only m (afterwards e t mark f k q l) =
        let c = cell_said e mark (Some t) f k q in
        rw (c.0, c.1) (at_after mark (age_of rts t) (omega arith))
    says_only m (untimed e mark f k q) =
        let c = cell_said e mark None f k q in
        rw (c.0, c.1)

-- ---- not received exactly if none had the number
module _ (es : List Entry) (n rts : ℕ) where
  first_there : (e : Entry) → First es n e → NoneHad es n → ⊥
  first_there e f none = none e (rw f.order (Memᴰ.append_right f.before (Memᴰ.head refl))) f.full

  pub none_had : (m : Metric) → Says es n rts m → m ≡ NotReceived → NoneHad es n
  none_had m (missing none) z = none
  none_had m (received e t mark f k q l) z = never (cc)
  none_had m (long_ago e t mark f k q l h) z = never (cc)
  none_had m (afterwards e t mark f k q l) z = never (cc)
  none_had m (untimed e mark f k q) z = never (cc)

  pub not_received_lem : (m : Metric) → Says es n rts m → NoneHad es n → m ≡ NotReceived
  not_received_lem m (missing none) z = refl
  not_received_lem m (received e t mark f k q l) z = absurd (first_there e f z)
  not_received_lem m (long_ago e t mark f k q l h) z = absurd (first_there e f z)
  not_received_lem m (afterwards e t mark f k q l) z = absurd (first_there e f z)
  not_received_lem m (untimed e mark f k q) z = absurd (first_there e f z)
