-- Each refusal of each call, exactly when the rules give it, for a store of any lent content. Assumes nothing.
use Prim.Native.Nat.{ℕ, ◌-◌, ◌<◌, ◌≤◌}
use mathlib.Core.Path.{◌≡◌, refl, sym, ap, ◌∙◌}
use mathlib.Core.List.{List}
use native.Mathlib.Omega.{arith}
use native.Mathlib.Decide.{dec_le, dec_lt}
use borrow.Author.Tests.{lt-ltb, le-ltb}
use lib.ListN.{length}
use Rattle.std.specs.Prelude.{Option, Result, Some, None, Ok, Err}
use Rattle.metric.specs.declared.Arrived.{Arrived}
use Rattle.places.specs.declared.Stream.{Stream}
use Rattle.lists.proofs.Cases.{never}
use Rattle.refusal.specs.declared.Refusal.{Refusal}
use Rattle.ring.specs.Ring.{cells_of_a_place}
use Rattle.window.specs.Number.{distance_of, farthest_ahead}
use Rattle.places.specs.Place.{place_at, highest_at, find_of}
use Rattle.places.specs.Shape.{Shaped}
use Rattle.places.specs.After.{StoreAfter, PlacesAfter, store_after}
use Rattle.places.specs.Held.{HeldAt, Unheld}
use Rattle.places.proofs.Shape.{right, wrong, Shape, shaped_is, misshapen_is, shape_of}
use Rattle.place_window.specs.Given.{Old, AdmissionGiven}
use Rattle.place_window.specs.Window.{cell_at}
use Rattle.place_window.proofs.Given.{admission_given, admission_only}
use Rattle.places.proofs.Held.{found_held, held_found, past_free, unheld_lost, lost_unheld}
use Rattle.cells.specs.Cell.{read_cell, word_after}
use Rattle.admission.specs.Kind.{kind_in, later_kind, kind_at}
use Rattle.admission.proofs.KindOf.{is_ahead_lem, is_behind, kind_new, kind_later}
use Rattle.arrivals.specs.Arrivals.{arrived}
use Rattle.store.specs.Store.{forgotten_at, forgotten, answer_of, place_of}
use Rattle.admission.specs.declared.ArrivalKind.{ArrivalKind}
use Rattle.history.specs.KindGiven.{most_passed_over}
use Rattle.history.specs.Refusals.{Recent, ArrivalGiven, ForgettingGiven, PlaceGiven}
use Rattle.metric.specs.Metric.{congested}
use Rattle.admission.specs.declared.ArrivalKind.TheVariants as kind

-- ---- an arrival
accepted_refused : (k : ArrivalKind) (e : Refusal) → Ok k ≡ Err e → ⊥
accepted_refused k e q = never (cc)

-- a number that is not too old is ahead, or recent
not_old : (high number : ℕ) → (Old high number → ⊥) → (0 < distance_of number high → farthest_ahead < distance_of number high) → Recent high number
not_old high number n d =
    record {
      not_ahead = d;
      near = elim (dec_lt (distance_of high number) cells_of_a_place) [ yes b ↦ b | no b ↦ absurd (n (record { not_ahead = d; below = omega arith })) ];
    }

ahead_not_old : (high number : ℕ) → 0 < distance_of number high → distance_of number high ≤ farthest_ahead → Old high number → ⊥
ahead_not_old high number l f o = let g = o.not_ahead l in omega arith

recent_not_old : (high number : ℕ) → Recent high number → Old high number → ⊥
recent_not_old high number r o = let g = r.near in let h = o.below in omega arith

module _ (places cells : List ℕ) (ssrc number mark : ℕ) (time : Option ℕ) where
  -- the kind that an accepted arrival is answered with
  abbrev kind_here : ArrivalKind
  kind_here = kind_at (find_of places ssrc) places cells number

  abbrev Admitted : StoreAfter (Result ArrivalKind Refusal) → Type 0
  Admitted o = AdmissionGiven (Ok kind_here) Err places cells ssrc number o

  kind_held : (p high : ℕ) → HeldAt places ssrc p high → kind_here ≡ later_kind (distance_of number high) (read_cell (cell_at cells p number))
  kind_held p high K = let h = held_found places ssrc p high K in rw (h.0, kind_later places cells p number, h.1)

  kind_unheld : Unheld places ssrc → kind_here ≡ kind.First
  kind_unheld n = rw (unheld_lost places ssrc n) (kind_new places cells number)

  -- after 4 and 1, the answer to an arrival is that of admitting its number
  admitted_only : Shaped places cells → mark ≤ congested → (o : StoreAfter (Result ArrivalKind Refusal)) → Admitted o
      → o.answer ≡ (arrived places cells ssrc number mark time).answer
  admitted_only s m o g =
      rw (shaped_is places cells s, le-ltb congested mark m)
      (admission_only (Ok kind_here) Err (word_after mark time) places cells ssrc number o g)

  -- an accepted one of a stream that is held
  later_only : Shaped places cells → mark ≤ congested → (p high : ℕ) → HeldAt places ssrc p high → (Old high number → ⊥) → (k : ArrivalKind)
      → later_kind (distance_of number high) (read_cell (cell_at cells p number)) ≡ k → Ok k ≡ (arrived places cells ssrc number mark time).answer
  later_only s m p high K n k e =
      ap Ok (sym (kind_held p high K ∙ e))
      ∙ admitted_only s m (store_after (Ok kind_here) places cells) (AdmissionGiven.later p high K n places cells)

  -- no other answer is given for a reason of the rules
  pub arrival_only : (o : StoreAfter (Result ArrivalKind Refusal)) → ArrivalGiven places cells ssrc number mark o → o.answer ≡ (arrived places cells ssrc number mark time).answer
  arrival_only o (ArrivalGiven.bad_store m) = rw (misshapen_is places cells m)
  arrival_only o (ArrivalGiven.bad_mark s m) = rw (shaped_is places cells s, lt-ltb congested mark m)
  arrival_only o (ArrivalGiven.too_old s m p high K w) = admitted_only s m o (AdmissionGiven.too_old p high K w)
  arrival_only o (ArrivalGiven.no_free_place s m n v) = admitted_only s m o (AdmissionGiven.no_free_place n v)
  arrival_only o (ArrivalGiven.ahead s m p high K l f a b) =
      later_only s m p high K (ahead_not_old high number l f) _ (rw (is_ahead_lem (distance_of number high) l f))
  arrival_only o (ArrivalGiven.late s m p high K r e a b) =
      later_only s m p high K (recent_not_old high number r) _ (rw (is_behind (distance_of number high) r.not_ahead, e))
  arrival_only o (ArrivalGiven.copy s m p high K r h t e a b) =
      later_only s m p high K (recent_not_old high number r) _ (rw (is_behind (distance_of number high) r.not_ahead, e))
  arrival_only o (ArrivalGiven.first s m n k v a b) =
      ap Ok (sym (kind_unheld n)) ∙ admitted_only s m (store_after (Ok kind_here) a b) (AdmissionGiven.first n k v a b)

  -- a later arrival that is accepted has one of three kinds
  module _ (s : Shaped places cells) (m : mark ≤ congested) (p high : ℕ) (K : HeldAt places ssrc p high) (a b : List ℕ) where
    abbrev Later : ArrivalKind → Type 0
    Later k = ArrivalGiven places cells ssrc number mark (store_after (Ok k) a b)

    recent_given : Recent high number → (c : Option Arrived) → read_cell (cell_at cells p number) ≡ c → Later (kind_in c)
    recent_given r None e = ArrivalGiven.late s m p high K r e a b
    recent_given r (Some a') e = ArrivalGiven.copy s m p high K r a'.mark a'.time e a b

    behind_given : (Old high number → ⊥) → (0 < distance_of number high → farthest_ahead < distance_of number high)
        → Later (later_kind (distance_of number high) (read_cell (cell_at cells p number)))
    behind_given n d =
        rw (is_behind (distance_of number high) d) (recent_given (not_old high number n d) (read_cell (cell_at cells p number)) refl)

    later_given : (Old high number → ⊥) → Later (later_kind (distance_of number high) (read_cell (cell_at cells p number)))
    later_given n =
        elim (dec_le (distance_of number high) farthest_ahead) [
          | yes f ↦
              elim (dec_le (distance_of number high) 0) [
                | yes z ↦ behind_given n (λ l. omega arith)
                | no z ↦ rw (is_ahead_lem (distance_of number high) (omega arith) f) (ArrivalGiven.ahead s m p high K (omega arith) f a b)
              ]
          | no f ↦ behind_given n (λ l. omega arith)
        ]

  admitted_given : Shaped places cells → mark ≤ congested → (o : StoreAfter (Result ArrivalKind Refusal)) → Admitted o → ArrivalGiven places cells ssrc number mark o
  admitted_given s m o (AdmissionGiven.too_old p high K w) = ArrivalGiven.too_old s m p high K w
  admitted_given s m o (AdmissionGiven.no_free_place n v) = ArrivalGiven.no_free_place s m n v
  admitted_given s m o (AdmissionGiven.later p high K n a b) = rw (kind_held p high K) (later_given s m p high K a b n)
  admitted_given s m o (AdmissionGiven.first n k v a b) = rw (kind_unheld n) (ArrivalGiven.first s m n k v a b)

  shape_given : Shape places cells → ArrivalGiven places cells ssrc number mark (arrived places cells ssrc number mark time)
  shape_given (wrong m) = rw (misshapen_is places cells m) (ArrivalGiven.bad_store m)
  shape_given (right s) =
      rw (shaped_is places cells s)
      (elim (dec_le mark congested) [
        | yes m ↦
            rw (le-ltb congested mark m)
            (admitted_given s m _ (admission_given (Ok kind_here) Err (word_after mark time) places cells ssrc number))
        | no m ↦ rw (lt-ltb congested mark (omega arith)) (ArrivalGiven.bad_mark s (omega arith))
      ])

  -- the answer is given for the reason that the rules name, and a refused arrival leaves the store as it was
  pub arrival_given : ArrivalGiven places cells ssrc number mark (arrived places cells ssrc number mark time)
  arrival_given = shape_given (shape_of places cells)

  -- a refused arrival changes nothing
  given_kept : (o : StoreAfter (Result ArrivalKind Refusal)) → ArrivalGiven places cells ssrc number mark o → (e : Refusal)
      → o.answer ≡ Err e → (o.places ≡ places) × (o.cells ≡ cells)
  given_kept o (ArrivalGiven.bad_store m) e q = (refl, refl)
  given_kept o (ArrivalGiven.bad_mark s m) e q = (refl, refl)
  given_kept o (ArrivalGiven.too_old s m p high K w) e q = (refl, refl)
  given_kept o (ArrivalGiven.no_free_place s m n v) e q = (refl, refl)
  given_kept o (ArrivalGiven.ahead s m p high K l f a b) e q = absurd (accepted_refused _ e q)
  given_kept o (ArrivalGiven.late s m p high K r w a b) e q = absurd (accepted_refused _ e q)
  given_kept o (ArrivalGiven.copy s m p high K r h t w a b) e q = absurd (accepted_refused _ e q)
  given_kept o (ArrivalGiven.first s m n k v a b) e q = absurd (accepted_refused _ e q)

  pub refused_arrival : (e : Refusal) → (arrived places cells ssrc number mark time).answer ≡ Err e
      → ((arrived places cells ssrc number mark time).places ≡ places) × ((arrived places cells ssrc number mark time).cells ≡ cells)
  refused_arrival e q = given_kept (arrived places cells ssrc number mark time) arrival_given e q

  -- an arrival passes over at most 32,766 numbers
  given_bound : (o : StoreAfter (Result ArrivalKind Refusal)) → ArrivalGiven places cells ssrc number mark o → (n : ℕ) → o.answer ≡ Ok (kind.Ahead n) → n ≤ most_passed_over
  given_bound o (ArrivalGiven.bad_store m) n q = never (cc)
  given_bound o (ArrivalGiven.bad_mark s m) n q = never (cc)
  given_bound o (ArrivalGiven.too_old s m p high K w) n q = never (cc)
  given_bound o (ArrivalGiven.no_free_place s m x v) n q = never (cc)
  given_bound o (ArrivalGiven.ahead s m p high K l f a b) n q = let e : distance_of number high - 1 ≡ n = cc in omega arith
  given_bound o (ArrivalGiven.late s m p high K r w a b) n q = never (cc)
  given_bound o (ArrivalGiven.copy s m p high K r h t w a b) n q = never (cc)
  given_bound o (ArrivalGiven.first s m x k v a b) n q = never (cc)

  pub passed_over_bound : (n : ℕ) → (arrived places cells ssrc number mark time).answer ≡ Ok (kind.Ahead n) → n ≤ most_passed_over
  passed_over_bound n q = given_bound (arrived places cells ssrc number mark time) arrival_given n q

  -- and that many where the number is as far ahead as can be
  pub bound_reached : Shaped places cells → mark ≤ congested → (p high : ℕ) → HeldAt places ssrc p high → distance_of number high ≡ farthest_ahead
      → (arrived places cells ssrc number mark time).answer ≡ Ok (kind.Ahead most_passed_over)
  bound_reached s m p high K e =
      let most : distance_of number high - 1 ≡ most_passed_over = omega arith in
      rw (← most) (sym (arrival_only _ (ArrivalGiven.ahead s m p high K (omega arith) (omega arith) places cells)))

-- ---- forgetting
forgotten_refused : (e : Refusal) → ◌≡◌ {A = Result (Unit {0}) Refusal} (Ok tt) (Err e) → ⊥
forgotten_refused e q = never (cc)

module _ (places cells : List ℕ) (ssrc : ℕ) where
  released_given : Shaped places cells → (g : Option ℕ) → find_of places ssrc ≡ g → ForgettingGiven places cells ssrc (forgotten_at g places)
  released_given s (Some p) f = ForgettingGiven.forgot s p (highest_at places p) (found_held places ssrc p f) _
  released_given s None f = ForgettingGiven.not_held s (lost_unheld places ssrc f)

  shape_released : Shape places cells → ForgettingGiven places cells ssrc (forgotten places cells ssrc)
  shape_released (wrong m) = rw (misshapen_is places cells m) (ForgettingGiven.bad_store m)
  shape_released (right s) = rw (shaped_is places cells s) (released_given s (find_of places ssrc) refl)

  pub forgetting_given : ForgettingGiven places cells ssrc (forgotten places cells ssrc)
  forgetting_given = shape_released (shape_of places cells)

  pub forgetting_only : (o : PlacesAfter (Result (Unit {0}) Refusal)) → ForgettingGiven places cells ssrc o → o.answer ≡ (forgotten places cells ssrc).answer
  forgetting_only o (ForgettingGiven.bad_store m) = rw (misshapen_is places cells m)
  forgetting_only o (ForgettingGiven.not_held s n) = rw (shaped_is places cells s, unheld_lost places ssrc n)
  forgetting_only o (ForgettingGiven.forgot s p high K a) = rw (shaped_is places cells s, (held_found places ssrc p high K).0)

  -- a refused forgetting changes nothing
  release_kept : (o : PlacesAfter (Result (Unit {0}) Refusal)) → ForgettingGiven places cells ssrc o → (e : Refusal) → o.answer ≡ Err e → o.places ≡ places
  release_kept o (ForgettingGiven.bad_store m) e q = refl
  release_kept o (ForgettingGiven.not_held s n) e q = refl
  release_kept o (ForgettingGiven.forgot s p high K a) e q = absurd (forgotten_refused e q)

  pub refused_forgetting : (e : Refusal) → (forgotten places cells ssrc).answer ≡ Err e → (forgotten places cells ssrc).places ≡ places
  refused_forgetting e q = release_kept (forgotten places cells ssrc) forgetting_given e q

-- ---- asking for a place
module _ (places cells : List ℕ) (k : ℕ) where
  held_given : Shaped places cells → (h : Option Stream) → place_at places k ≡ h → PlaceGiven places cells k (answer_of h)
  held_given s (Some s') e = PlaceGiven.held s s'.ssrc s'.highest e
  held_given s None e =
      elim (dec_lt k (length places)) [
        | yes l ↦ PlaceGiven.is_free s l e
        | no l ↦ PlaceGiven.not_there s (omega arith)
      ]

  shape_placed : Shape places cells → PlaceGiven places cells k (place_of places cells k)
  shape_placed (wrong m) = rw (misshapen_is places cells m) (PlaceGiven.bad_store m)
  shape_placed (right s) = rw (shaped_is places cells s) (held_given s (place_at places k) refl)

  pub place_given : PlaceGiven places cells k (place_of places cells k)
  place_given = shape_placed (shape_of places cells)

  pub place_only : (a : Result Stream Refusal) → PlaceGiven places cells k a → a ≡ place_of places cells k
  place_only a (PlaceGiven.bad_store m) = rw (misshapen_is places cells m)
  place_only a (PlaceGiven.not_there s l) = rw (shaped_is places cells s, past_free places k l)
  place_only a (PlaceGiven.is_free s l e) = rw (shaped_is places cells s, e)
  place_only a (PlaceGiven.held s x high e) = rw (shaped_is places cells s, e)
