-- Registering gives each answer exactly when the rules do, for a store of any lent content, and
-- registering again changes nothing. Assumes nothing.
use Prim.Native.Nat.{ℕ, ◌<◌}
use mathlib.Core.Logic.{inl, inr}
use mathlib.Core.Path.{◌≡◌, refl, sym, ap, ◌∙◌}
use mathlib.Core.List.{List}
use native.Mathlib.Omega.{arith}
use lib.Seq.{set-get_or}
use Rattle.lists.proofs.Cases.{never}
use Rattle.refusal.specs.Numbers.{number_of}
use Rattle.refusal.specs.declared.Refusal.{Refusal}
use Rattle.ring.specs.Ring.{cells_of_a_place}
use Rattle.window.specs.Number.{sequence_numbers, distance_of, move_of}
use Rattle.window.proofs.Number.{move_within}
use Rattle.places.specs.Place.{highest_at}
use Rattle.places.specs.Shape.{Shaped}
use Rattle.places.specs.Held.{HeldAt}
use Rattle.places.specs.After.{StoreAfter, store_after}
use Rattle.places.proofs.Held.{held_found}
use Rattle.places.proofs.Shape.{right, wrong, Shape, shaped_is, misshapen_is, shape_of}
use Rattle.place_window.specs.Window.{cell_index, cell_at, updated}
use Rattle.place_window.specs.Given.{AdmissionGiven}
use Rattle.place_window.proofs.Given.{admission_given, admission_only, admission_kept}
use Rattle.place_window.proofs.Moving.{continued_by}
use Rattle.packet_laws.specs.Refused.{OneOf}
use Rattle.sent_word.specs.Word.{read_word_of, registered_word}
use Rattle.sent_word.specs.declared.Status.{Status}
use Rattle.sent_word.proofs.ByKind.{read_none, registered_again}
use Rattle.sent_register.specs.Register.{registered}
use Rattle.std.specs.Prelude.{Result, Some, Ok, Err}
use Rattle.sent_laws.specs.Given.{RegistrationGiven, registration_numbers}
use Rattle.sent_laws.proofs.Numbers.{same_number}
use Rattle.refusal.specs.declared.Refusal.TheVariants.{NoFreePlace, TooOld, BadStore}
use Rattle.window.specs.declared.Move.TheVariants.{Within}

accepted_refused : (e : Refusal) → ◌≡◌ {A = Result (Unit {0}) Refusal} (Ok tt) (Err e) → ⊥
accepted_refused e q = never (cc)

module _ (places cells : List ℕ) (ssrc number : ℕ) where
  -- no other answer is given for a reason of the rules
  pub registration_only : (o : StoreAfter (Result (Unit {0}) Refusal)) → RegistrationGiven places cells ssrc number o
      → o.answer ≡ (registered places cells ssrc number).answer
  registration_only o (RegistrationGiven.bad_store m) = rw (misshapen_is places cells m)
  registration_only o (RegistrationGiven.shaped s r g) =
      rw (shaped_is places cells s) (admission_only (Ok tt) Err registered_word places cells ssrc number r g)

  shape_given : Shape places cells → RegistrationGiven places cells ssrc number (registered places cells ssrc number)
  shape_given (wrong m) = rw (misshapen_is places cells m) (RegistrationGiven.bad_store m)
  shape_given (right s) =
      rw (shaped_is places cells s)
      (RegistrationGiven.shaped s _ (admission_given (Ok tt) Err registered_word places cells ssrc number))

  -- the answer is given for the reason that the rules name
  pub registration_given : RegistrationGiven places cells ssrc number (registered places cells ssrc number)
  registration_given = shape_given (shape_of places cells)

  -- a refused registration changes nothing
  given_kept : (o : StoreAfter (Result (Unit {0}) Refusal)) → RegistrationGiven places cells ssrc number o → (e : Refusal)
      → o.answer ≡ Err e → (o.places ≡ places) × (o.cells ≡ cells)
  given_kept o (RegistrationGiven.bad_store m) e q = (refl, refl)
  given_kept o (RegistrationGiven.shaped s r g) e q =
      admission_kept (Ok tt) Err accepted_refused places cells ssrc number r g e q

  pub refused_registration : (e : Refusal) → (registered places cells ssrc number).answer ≡ Err e
      → ((registered places cells ssrc number).places ≡ places) × ((registered places cells ssrc number).cells ≡ cells)
  refused_registration e q = given_kept (registered places cells ssrc number) registration_given e q

  -- ---- registering again

  -- a number of the window is not ahead of the highest one
  in_window : (p high : ℕ) → HeldAt places ssrc p high → number < sequence_numbers → distance_of high number < cells_of_a_place
      → move_of (highest_at places p) number ≡ Within (distance_of (highest_at places p) number)
  in_window p high K low l =
      let k = (held_found places ssrc p high K).1 in
      move_within (highest_at places p) number (λ a. omega arith) (omega arith)

  -- the word of a registered number stays, and with it every cell
  word_kept : (p : ℕ) (s : Status) → read_word_of (cell_at cells p number) ≡ Some s → updated registered_word cells p number ≡ cells
  unfolding updated
  word_kept p s e =
      rw (registered_again (cell_at cells p number) (λ z. let n = read_none (cell_at cells p number) z in never (cc)))
      (set-get_or cells (cell_index p number) 0)

  -- a number that is registered and in the window is accepted again, and nothing changes
  pub again_kept : Shaped places cells → (p high : ℕ) → HeldAt places ssrc p high → number < sequence_numbers
      → distance_of high number < cells_of_a_place → (s : Status) → read_word_of (cell_at cells p number) ≡ Some s
      → registered places cells ssrc number ≡ store_after (Ok tt) places cells
  again_kept h p high K low l s e =
      rw (shaped_is places cells h, (held_found places ssrc p high K).0)
      (sym (continued_by (Ok tt) Err registered_word places cells p ssrc number
      (Within (distance_of (highest_at places p) number)) (in_window p high K low l))
      ∙ ap (λ (c : List ℕ). store_after (Ok tt) places c) (word_kept p s e))

  -- ---- the numbers that can come

  admission_numbers : (o : StoreAfter (Result (Unit {0}) Refusal)) → AdmissionGiven (Ok tt) Err places cells ssrc number o → (e : Refusal)
      → o.answer ≡ Err e → OneOf (number_of e) registration_numbers
  admission_numbers o (AdmissionGiven.too_old p high K w) e q = same_number registration_numbers TooOld e (cc) (inr (inl refl))
  admission_numbers o (AdmissionGiven.no_free_place n v) e q = same_number registration_numbers NoFreePlace e (cc) (inr (inr (inl refl)))
  admission_numbers o (AdmissionGiven.later p high K n a b) e q = absurd (accepted_refused e q)
  admission_numbers o (AdmissionGiven.first n k v a b) e q = absurd (accepted_refused e q)

  given_numbers : (o : StoreAfter (Result (Unit {0}) Refusal)) → RegistrationGiven places cells ssrc number o → (e : Refusal)
      → o.answer ≡ Err e → OneOf (number_of e) registration_numbers
  given_numbers o (RegistrationGiven.bad_store m) e q = same_number registration_numbers BadStore e (cc) (inl refl)
  given_numbers o (RegistrationGiven.shaped s r g) e q = admission_numbers r g e q

  pub registration_numbers_lem : (e : Refusal) → (registered places cells ssrc number).answer ≡ Err e → OneOf (number_of e) registration_numbers
  registration_numbers_lem e q = given_numbers (registered places cells ssrc number) registration_given e q
