-- Rule "Kind by history": which kind an accepted arrival is, from a fresh store, after any list of calls. Assumes nothing.
use Prim.Native.Nat.{ℕ, ◌+◌, ◌-◌, ◌%◌, ◌≤◌}
use mathlib.Core.Path.{◌≡◌, refl, sym, ap, ◌∙◌}
use mathlib.Core.Bool.{Bool, true, false, cond}
use mathlib.Core.List.Memᴰ
use mathlib.Core.List.{List, [], ◌∷◌, ◌++◌, Memᴰ, cons≢nil}
use native.Mathlib.Omega.{arith}
use native.Mathlib.Decide.{dec_lt}
use borrow.Author.Tests.{lt-ltb, le-ltb}
use lib.Dec.{ltb}
use Rattle.lists.specs.All.{All}
use Rattle.lists.proofs.All.{all_append, all_join, all_member}
use Rattle.std.specs.Prelude.{Option, Result, Some, None, Ok, Err}
use Rattle.refusal.specs.declared.Refusal.{Refusal}
use Rattle.metric.specs.declared.Arrived.{Arrived}
use Rattle.lists.proofs.Cases.{never}
use Rattle.metric.specs.Metric.{congested}
use Rattle.window.specs.Number.{distance_of, sequence_numbers}
use Rattle.places.specs.Place.{find_of}
use Rattle.arrivals.specs.Arrivals.{arrived}
use Rattle.admission.specs.Kind.{kind_in}
use Rattle.admission.specs.declared.ArrivalKind.{ArrivalKind}
use Rattle.streams.specs.Full.{full_of}
use Rattle.streams.specs.Model.{Place, ModelAfter, model_after, stream_in, admitted}
use Rattle.streams.specs.Alone.{Once, Admitted, entered, kept}
use Rattle.streams.specs.Reading.{Store, Fresh}
use Rattle.streams.proofs.Alone.{admitted_as}
use Rattle.history.specs.Calls.{Call, arrive, forget, store_step, store_answer, store_run, store_answers, Accepted, is_done, heard, heard_all, accepted_of, CallInRange}
use Rattle.history.specs.Meaning.{Entry, entry_of, entries_of, top_of, cell_by}
use Rattle.history.specs.Model.{kind_of_full, model_kind, model_arrived}
use Rattle.history.specs.KindGiven.{KindGiven}
use Rattle.history.proofs.Filled.{as_arrivals}
use Rattle.history.proofs.Heard.{place_by}
use Rattle.history.proofs.Simulation.{arrive_alike}
use Rattle.history.proofs.ByHistory as history
use Rattle.refusal.specs.declared.Refusal.TheVariants.{BadMark}
use Rattle.admission.specs.declared.ArrivalKind.TheVariants as kind

-- ---- the kind that the machine gives is that of the stream's history
module _ (number : ℕ) where
  -- a full number that is not above the highest: a copy, or late
  behind_by : (past : List Accepted) → (past ≡ [] → ⊥) → full_of (top_of past) number ≤ top_of past
      → (c : Option Arrived) → cell_by (entries_of past) (full_of (top_of past) number) ≡ c → KindGiven past number (kind_in c)
  behind_by past n low None e =
      KindGiven.late n low (λ d m q. (as_arrivals (entries_of past) (full_of (top_of past) number)).filled d m q e)
  behind_by past n low (Some a) e =
      let o = (as_arrivals (entries_of past) (full_of (top_of past) number)).only a.mark a.time e in
      KindGiven.copy o.0 o.1.0 o.1.1

  pub kind_by : (ssrc : ℕ) (past : List Accepted) → KindGiven past number (model_kind (place_by ssrc past) number)
  unfolding kind_of_full
  kind_by ssrc [] = KindGiven.first refl
  kind_by ssrc (a ∷ l) =
      elim (dec_lt top full) [
        | yes u ↦ rw (lt-ltb top full u) (KindGiven.ahead cons≢nil (full - (top + 1)) (omega arith))
        | no u ↦
            let d : full ≤ top = omega arith in
            rw (le-ltb top full d) (behind_by (a ∷ l) cons≢nil d (cell_by (entries_of (a ∷ l)) full) refl)
      ]
    where
      top : ℕ
      top = top_of (a ∷ l)

      full : ℕ
      full = full_of (top_of (a ∷ l)) number

  -- and no other is: none of the entries is above the highest
  module _ (ssrc : ℕ) (a : Accepted) (l : List Accepted) (below : All (λ (e : Entry). e.full ≤ top_of (a ∷ l)) (entries_of (a ∷ l))) where
    abbrev past : List Accepted
    past = a ∷ l

    in_cell : (c : Option Arrived) → cell_by (entries_of past) (full_of (top_of past) number) ≡ c → full_of (top_of past) number ≤ top_of past
        → model_kind (place_by ssrc past) number ≡ kind_in c
    unfolding kind_of_full
    in_cell c e low = rw (le-ltb (top_of past) (full_of (top_of past) number) low, e)

    held_only : (k : ArrivalKind) → KindGiven past number k → k ≡ model_kind (place_by ssrc past) number
    unfolding kind_of_full
    held_only k (KindGiven.first e) = absurd (cons≢nil e)
    held_only k (KindGiven.ahead n passed e) =
        let p : full_of (top_of past) number - (top_of past + 1) ≡ passed = omega arith in
        rw (lt-ltb (top_of past) (full_of (top_of past) number) (omega arith), p)
    held_only k (KindGiven.copy e m q) = by_cell (cell_by (entries_of past) (full_of (top_of past) number)) refl
      where
        low : full_of (top_of past) number ≤ top_of past
        low = let h : e.full ≤ top_of past = all_member (λ (d : Entry). d.full ≤ top_of past) (entries_of past) e below m in omega arith

        by_cell : (c : Option Arrived) → cell_by (entries_of past) (full_of (top_of past) number) ≡ c → kind.Copy ≡ model_kind (place_by ssrc past) number
        by_cell None w = absurd ((as_arrivals (entries_of past) (full_of (top_of past) number)).filled e m q w)
        by_cell (Some a) w = sym (in_cell (Some (record { mark = a.mark; time = a.time })) w low)
    held_only k (KindGiven.late n low none) = by_cell (cell_by (entries_of past) (full_of (top_of past) number)) refl
      where
        by_cell : (c : Option Arrived) → cell_by (entries_of past) (full_of (top_of past) number) ≡ c → kind.Late ≡ model_kind (place_by ssrc past) number
        by_cell None w = sym (in_cell None w low)
        by_cell (Some a) w =
            let o = (as_arrivals (entries_of past) (full_of (top_of past) number)).only a.mark a.time w in
            absurd (none o.0 o.1.0 o.1.1)

  kind_only_by : (ssrc : ℕ) (l : List Accepted) → All (λ (e : Entry). e.full ≤ top_of l) (entries_of l) → (k : ArrivalKind) → KindGiven l number k
      → k ≡ model_kind (place_by ssrc l) number
  kind_only_by ssrc [] below k (KindGiven.first e) = refl
  kind_only_by ssrc [] below k (KindGiven.ahead n passed e) = absurd (n refl)
  kind_only_by ssrc [] below k (KindGiven.copy e m q) = absurd (Memᴰ.not-nil m)
  kind_only_by ssrc [] below k (KindGiven.late n low none) = absurd (n refl)
  kind_only_by ssrc (a ∷ l) below k g = held_only ssrc a l below k g

-- ---- an arrival that the machine accepts has the machine's kind
admitted_kind : (entry : ℕ → Entry) (ps : List (Place Entry)) (x number : ℕ) (own k : ArrivalKind) (o : ModelAfter Entry (Result ArrivalKind Refusal))
    → Admitted entry (Ok own) Err ps x number o → o.answer ≡ Ok k → k ≡ own
admitted_kind entry ps x number own k o (entered ps' only) q = cc
admitted_kind entry ps x number own k o (kept e) q = never (cc)

model_kind_lem : (ps : List (Place Entry)) → Once ps → (x number mark : ℕ) (time : Option ℕ) (k : ArrivalKind)
    → (model_arrived ps x number mark time).answer ≡ Ok k → k ≡ model_kind (stream_in ps x) number
model_kind_lem ps once x number mark time k q = by_mark (ltb congested mark) q
  where
    entry : ℕ → Entry
    entry = entry_of (record { number = number; mark = mark; time = time })

    by_mark : (b : Bool)
        → (cond b (model_after (Err BadMark) ps) (admitted (Ok (model_kind (stream_in ps x) number)) Err entry ps x number)).answer
        ≡ Ok k
        → k ≡ model_kind (stream_in ps x) number
    by_mark true e = never (cc)
    by_mark false e =
        admitted_kind entry ps x number (model_kind (stream_in ps x) number) k _
        (admitted_as entry ps once x number (Ok (model_kind (stream_in ps x) number)) Err) e

-- ---- after any list of calls to a fresh store
-- the highest number once more has the highest full number
full_again : (top number : ℕ) → number ≡ top % sequence_numbers → full_of top number ≡ top
unfolding full_of
full_again top number h =
    let d : distance_of number (top % sequence_numbers) ≡ 0 = omega arith in
    rw d (omega arith)

module _ (st : Store) (new : Fresh st) (cs : List Call) (range : All CallInRange cs) (ssrc number mark : ℕ) (time : Option ℕ)
    (r : CallInRange (arrive ssrc number mark time)) where
  abbrev past_of : List Accepted
  past_of = accepted_of ssrc cs (store_answers st cs)

  abbrev answer : Result ArrivalKind Refusal
  answer = (arrived (store_run st cs).places (store_run st cs).cells ssrc number mark time).answer

  kind_is : (k : ArrivalKind) → answer ≡ Ok k → k ≡ model_kind (place_by ssrc past_of) number
  kind_is k e =
      let K = history.kept st new cs range in
      let alike = arrive_alike (store_run st cs) _ (history.same_reading st new cs range) ssrc number mark time r.0 r.1.0 r.1.1 in
      model_kind_lem _ K.once ssrc number mark time k (sym alike.answer ∙ e)
      ∙ ap (λ (P : Place Entry). model_kind P number) (K.each ssrc)

  -- an accepted arrival is answered with the kind that the history of its stream says
  pub kind_given : (k : ArrivalKind) → answer ≡ Ok k → KindGiven past_of number k
  kind_given k e = rw (kind_is k e) (kind_by number ssrc past_of)

  below_top : All (λ (e : Entry). e.full ≤ top_of past_of) (entries_of past_of)
  below_top = by_search (find_of (store_run st cs).places ssrc) refl
    where
      by_search : (f : Option ℕ) → find_of (store_run st cs).places ssrc ≡ f → All (λ (e : Entry). e.full ≤ top_of past_of) (entries_of past_of)
      by_search (Some p) f = (history.by_history st new cs range ssrc p f).highest
      by_search None f = rw (history.not_held_lem st new cs range ssrc f) tt

  -- and with no other
  pub kind_only : (k : ArrivalKind) → answer ≡ Ok k → (j : ArrivalKind) → KindGiven past_of number j → j ≡ k
  kind_only k e j g = kind_only_by number ssrc past_of below_top j g ∙ sym (kind_is k e)

  -- where the history of the stream is empty, an arrival is the first
  first_of_none : past_of ≡ [] → (k : ArrivalKind) → answer ≡ Ok k → k ≡ kind.First
  first_of_none none k e = kind_is k e ∙ ap (λ (l : List Accepted). model_kind (place_by ssrc l) number) none

  -- rule "Late at H": an arrival with the highest number is a copy
  pub highest_again : (past_of ≡ [] → ⊥) → number ≡ top_of past_of % sequence_numbers → (k : ArrivalKind) → answer ≡ Ok k → k ≡ kind.Copy
  highest_again some h k e = sym (kind_only k e kind.Copy (copied past_of refl))
    where
      copied : (l : List Accepted) → past_of ≡ l → KindGiven past_of number kind.Copy
      copied [] p = absurd (some p)
      copied (a ∷ l) p = KindGiven.copy top.0 (rw p top.1.0) (top.1.1 ∙ same)
        where
          top : (d : Entry) × (Memᴰ d (entries_of (a ∷ l)) × (d.full ≡ top_of (a ∷ l)))
          top = history.highest_attained a l

          same : top_of (a ∷ l) ≡ full_of (top_of past_of) number
          same = ap top_of (sym p) ∙ sym (full_again (top_of past_of) number h)

-- rule "After forgetting": the next arrival of a stream that was forgotten is the first
pub first_after_forgetting : (st : Store) → Fresh st → (cs : List Call) → All CallInRange cs → (ssrc number mark : ℕ) (time : Option ℕ)
    → CallInRange (arrive ssrc number mark time) → (k : ArrivalKind)
    → let after : Store = store_run st (cs ++ (forget ssrc ∷ [])) in
    (arrived after.places after.cells ssrc number mark time).answer ≡ Ok k → k ≡ kind.First
first_after_forgetting st new cs range ssrc number mark time r =
    first_of_none st new (cs ++ (forget ssrc ∷ [])) (all_append CallInRange cs (forget ssrc) range r.0) ssrc number mark time r
    (history.forgotten_history st new cs range ssrc r.0)

-- ---- the same with any calls between

-- the history after two lists of calls: what the second makes of that after the first
heard_join : (ssrc : ℕ) (cs ds : List Call) (st : Store) (past : List Accepted)
    → heard_all ssrc past (cs ++ ds) (store_answers st (cs ++ ds)) ≡ heard_all ssrc (heard_all ssrc past cs (store_answers st cs)) ds (store_answers (store_run st cs) ds)
heard_join ssrc [] ds st past = refl
heard_join ssrc (c ∷ cs) ds st past = heard_join ssrc cs ds (store_step st c) (heard ssrc past c (is_done (store_answer st c)))

-- the next accepted arrival of a stream that was forgotten is the first: of the calls since then, ds, none was an
-- accepted arrival of it
pub first_since_forgetting : (st : Store) → Fresh st → (cs ds : List Call) → All CallInRange cs → All CallInRange ds
    → (ssrc number mark : ℕ) (time : Option ℕ) → CallInRange (arrive ssrc number mark time)
    → let forgot : List Call = cs ++ (forget ssrc ∷ []) in
    let after : Store = store_run st (forgot ++ ds) in
    accepted_of ssrc ds (store_answers (store_run st forgot) ds) ≡ [] → (k : ArrivalKind)
    → (arrived after.places after.cells ssrc number mark time).answer ≡ Ok k → k ≡ kind.First
first_since_forgetting st new cs ds range since ssrc number mark time r none =
    let forgot : List Call = cs ++ (forget ssrc ∷ []) in
    first_of_none st new (forgot ++ ds) (all_join CallInRange forgot ds (all_append CallInRange cs (forget ssrc) range r.0) since) ssrc number mark time r
    (heard_join ssrc forgot ds st []
    ∙ ap (λ (past : List Accepted). heard_all ssrc past ds (store_answers (store_run st forgot) ds)) (history.forgotten_history st new cs range ssrc r.0)
    ∙ none)
