-- The machine keeps, for each stream, its accepted arrivals since it took its place. Assumes nothing.
use Prim.Native.Nat.{ℕ, max}
use mathlib.Core.Path.{◌≡◌, refl, sym, ap, ◌∙◌}
use mathlib.Core.Bool.{Bool, true, false, ◌&&◌, false≢true}
use mathlib.Core.List.{List, [], ◌∷◌, ◌++◌}
use native.Mathlib.Omega.{arith}
use native.Mathlib.Decide.{ℕ_discrete, dec_le}
use borrow.Author.Tests.{lt-ltb, le-ltb, eq-eqb, ne_eqb}
use lib.Dec.{eqb}
use Rattle.std.specs.Prelude.{Option, Result, Some, None, Ok, Err}
use Rattle.refusal.specs.declared.Refusal.{Refusal}
use Rattle.lists.proofs.Cases.{never}
use Rattle.metric.specs.Metric.{congested}
use Rattle.streams.specs.Full.{full_of, first_full}
use Rattle.streams.specs.Model.{Place, free, stream, ModelAfter, find_in, found_in, stream_in, vacant}
use Rattle.streams.specs.Alone.{Once, Only, next_full, with_one, Admitted, entered, kept}
use Rattle.streams.proofs.Alone.{admitted_as, found_only, vacant_once, vacant_stream}
use Rattle.admission.specs.declared.ArrivalKind.{ArrivalKind}
use Rattle.history.specs.Calls.{Call, arrive, forget, to_arrival, to_forgetting, Accepted, is_done, heard, heard_all}
use Rattle.history.specs.Meaning.{Entry, entry_of, count_from, top_from, entries_of, top_of}
use Rattle.history.specs.Model.{model_kind, model_arrived, forgot_at, model_forgot, model_step, model_answer, model_run, model_answers}

-- a stream with its accepted arrivals
abbrev pub place_by : ℕ → List Accepted → Place Entry
place_by x [] = free
place_by x (a ∷ more) = stream x (top_of (a ∷ more)) (entries_of (a ∷ more))

-- ---- one more accepted arrival
top_append : (l : List Accepted) (a : Accepted) (top : ℕ) → top_from top (l ++ (a ∷ [])) ≡ max (top_from top l) (full_of (top_from top l) a.number)
unfolding top_from
top_append [] a top = refl
top_append (b ∷ l) a top = top_append l a (max top (full_of top b.number))

count_append : (l : List Accepted) (a : Accepted) (top : ℕ)
    → count_from top (l ++ (a ∷ [])) ≡ count_from top l ++ (entry_of a (full_of (top_from top l) a.number) ∷ [])
unfolding top_from count_from
count_append [] a top = refl
count_append (b ∷ l) a top = rw (count_append l a (max top (full_of top b.number)))

-- the stream with one more entry is that of one more accepted arrival
one_more : (x : ℕ) (a : Accepted) (l : List Accepted) → with_one (entry_of a) x (place_by x l) (next_full (place_by x l) a.number) ≡ place_by x (l ++ (a ∷ []))
unfolding top_from count_from
one_more x a [] = let h : max 0 (first_full a.number) ≡ first_full a.number = omega arith in rw h
one_more x a (b ∷ l) = rw (top_append l a (first_full b.number), count_append l a (first_full b.number))

-- every stream is as its accepted arrivals say, and none has two places
pub record Kept (ps : List (Place Entry)) (acc : ℕ → List Accepted) : Type 0 where
  pub once : Once ps
  pub each : (y : ℕ) → stream_in ps y ≡ place_by y (acc y)

and_false : (b : Bool) → (b && false) ≡ false
and_false true = refl
and_false false = refl

-- a refused call is heard by no stream
heard_refused : (y : ℕ) (l : List Accepted) (c : Call) → heard y l c false ≡ l
heard_refused y l (arrive x number mark time) = rw (and_false (eqb x y))
heard_refused y l (forget x) = rw (and_false (eqb x y))

module _ (ps : List (Place Entry)) (acc : ℕ → List Accepted) (K : Kept ps acc) where
  refused_kept : (c : Call) → Kept ps (λ (y : ℕ). heard y (acc y) c false)
  refused_kept c = record { once = K.once; each = λ y. K.each y ∙ ap (place_by y) (sym (heard_refused y (acc y) c)) }

  -- a call that changes the stream x alone
  changed_kept : (c : Call) (x : ℕ) (ps' : List (Place Entry)) (P : Place Entry) → Only ps x ps' P → P ≡ place_by x (heard x (acc x) c true)
      → ((y : ℕ) → (x ≡ y → ⊥) → heard y (acc y) c true ≡ acc y) → Kept ps' (λ (y : ℕ). heard y (acc y) c true)
  changed_kept c x ps' P only here others = record { once = only.once; each = each }
    where
      each : (y : ℕ) → stream_in ps' y ≡ place_by y (heard y (acc y) c true)
      each y =
          elim (ℕ_discrete x y) [
            | yes e ↦ rw (← e) (only.own ∙ here)
            | no e ↦ only.others y (λ q. e (sym q)) ∙ K.each y ∙ ap (place_by y) (sym (others y e))
          ]

  module _ (x number mark : ℕ) (time : Option ℕ) where
    abbrev new : Accepted
    new = record { number = number; mark = mark; time = time }

    abbrev call : Call
    call = arrive x number mark time

    abbrev Goal : ModelAfter Entry (Result ArrivalKind Refusal) → Type 0
    Goal o = Kept o.places (λ (y : ℕ). heard y (acc y) call (is_done (to_arrival o.answer)))

    own_arrival : heard x (acc x) call true ≡ acc x ++ (new ∷ [])
    own_arrival = rw (eq-eqb x x refl)

    own_entry : with_one (entry_of new) x (stream_in ps x) (next_full (stream_in ps x) number) ≡ place_by x (heard x (acc x) call true)
    own_entry = rw (K.each x, own_arrival) (one_more x new (acc x))

    admitted_kept : (k : ArrivalKind) (o : ModelAfter Entry (Result ArrivalKind Refusal)) → Admitted (entry_of new) (Ok k) Err ps x number o → Goal o
    admitted_kept k o (entered ps' only) =
        changed_kept call x ps' (with_one (entry_of new) x (stream_in ps x) (next_full (stream_in ps x) number)) only own_entry (λ y n. rw (ne_eqb x y n))
    admitted_kept k o (kept e) = refused_kept call

    arrived_kept : Goal (model_arrived ps x number mark time)
    arrived_kept =
        elim (dec_le mark congested) [
          | yes m ↦
              rw (le-ltb congested mark m)
              (admitted_kept _ _ (admitted_as (entry_of new) ps K.once x number (Ok (model_kind (stream_in ps x) number)) Err))
          | no m ↦ rw (lt-ltb congested mark (omega arith)) (refused_kept call)
        ]

  -- a forgotten stream's history starts anew
  own_forgetting : (x : ℕ) → heard x (acc x) (forget x) true ≡ []
  own_forgetting x = rw (eq-eqb x x refl)

  forgot_kept : (x : ℕ) → Kept (model_forgot ps x).places (λ (y : ℕ). heard y (acc y) (forget x) (is_done (to_forgetting (model_forgot ps x).answer)))
  forgot_kept x = found (find_in ps x) refl
    where
      found : (f : Option ℕ) → find_in ps x ≡ f
          → Kept (forgot_at f ps).places (λ (y : ℕ). heard y (acc y) (forget x) (is_done (to_forgetting (forgot_at f ps).answer)))
      found (Some k) e =
          changed_kept (forget x) x _ free (found_only ps K.once x k e free (λ y h. absurd (false≢true h)))
          (ap (place_by x) (sym (own_forgetting x))) (λ y n. rw (ne_eqb x y n))
      found None e = refused_kept (forget x)

  -- once it is forgotten, or was not held to begin with, its history is empty
  forgotten_empty : (x : ℕ) → heard x (acc x) (forget x) (is_done (to_forgetting (model_forgot ps x).answer)) ≡ []
  forgotten_empty x = found (find_in ps x) refl
    where
      none : (l : List Accepted) → free ≡ place_by x l → l ≡ []
      none [] h = refl
      none (a ∷ l) h = never (cc)

      found : (f : Option ℕ) → find_in ps x ≡ f → heard x (acc x) (forget x) (is_done (to_forgetting (forgot_at f ps).answer)) ≡ []
      found (Some k) e = own_forgetting x
      found None e = heard_refused x (acc x) (forget x) ∙ none (acc x) (ap (λ (f : Option ℕ). found_in f ps) (sym e) ∙ K.each x)

  pub call_kept : (c : Call) → Kept (model_step ps c) (λ (y : ℕ). heard y (acc y) c (is_done (model_answer ps c)))
  call_kept (arrive x number mark time) = arrived_kept x number mark time
  call_kept (forget x) = forgot_kept x

-- every list of calls
pub run_kept : (cs : List Call) (ps : List (Place Entry)) (acc : ℕ → List Accepted) → Kept ps acc
    → Kept (model_run ps cs) (λ (y : ℕ). heard_all y (acc y) cs (model_answers ps cs))
run_kept [] ps acc K = K
run_kept (c ∷ cs) ps acc K = run_kept cs (model_step ps c) (λ (y : ℕ). heard y (acc y) c (is_done (model_answer ps c))) (call_kept ps acc K c)

-- every list of calls that ends with forgetting the stream
pub last_forgotten : (cs : List Call) (ps : List (Place Entry)) (acc : ℕ → List Accepted) → Kept ps acc → (x : ℕ)
    → heard_all x (acc x) (cs ++ (forget x ∷ [])) (model_answers ps (cs ++ (forget x ∷ []))) ≡ []
last_forgotten [] ps acc K x = forgotten_empty ps acc K x
last_forgotten (c ∷ cs) ps acc K x =
    last_forgotten cs (model_step ps c) (λ (y : ℕ). heard y (acc y) c (is_done (model_answer ps c))) (call_kept ps acc K c) x

pub vacant_kept : (n : ℕ) → Kept (vacant n) (λ (y : ℕ). [])
vacant_kept n = record { once = vacant_once Entry n; each = vacant_stream Entry n }
