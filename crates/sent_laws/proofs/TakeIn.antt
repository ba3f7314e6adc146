-- Taking in gives each answer exactly when the rules do, for any lent content and any octets.
-- Assumes nothing.
use Prim.Native.Nat.{ℕ}
use mathlib.Core.Logic.{inl, inr}
use mathlib.Core.Path.{◌≡◌, refl}
use mathlib.Core.List.{List}
use Rattle.lists.proofs.Cases.{never}
use Rattle.refusal.specs.Numbers.{number_of}
use Rattle.refusal.specs.declared.Refusal.{Refusal}
use Rattle.places.specs.Shape.{Shaped}
use Rattle.places.proofs.Shape.{right, wrong, Shape, shaped_is, misshapen_is, shape_of}
use Rattle.reader.specs.Reading.{Decoded, packet, refused, decode_packet}
use Rattle.packet.specs.Sizes.{packet_header_octets}
use Rattle.walk.specs.Walk.{rts_at}
use Rattle.packet_laws.specs.Refused.{Sound, Walks, OneOf}
use Rattle.packet_laws.proofs.Refusals.{refused_given, given_refused, when_accepted, accepted_when, reader_numbers_lem}
use Rattle.sent_feedback.specs.TakeIn.{CellsAfter, taken_as_of, taken_in}
use Rattle.std.specs.Prelude.{Result, Ok, Err}
use Rattle.sent_laws.specs.Given.{TakingGiven, taking_numbers}
use Rattle.sent_laws.proofs.Numbers.{same_number}
use Rattle.refusal.specs.declared.Refusal.TheVariants.{BadStore}

module _ (places cells s : List ℕ) where
  -- a packet of sound parts is taken in
  sound_taken : Sound s → Walks s packet_header_octets (rts_at s) → (d : Decoded) → decode_packet s ≡ d → (Ok tt) ≡ (taken_as_of d places cells).answer
  sound_taken sound walks (packet p) d = refl
  sound_taken sound walks (refused e) d = absurd (when_accepted s sound walks e d)

  -- no other answer is given for a reason of the rules
  pub taking_only : (o : CellsAfter (Result (Unit {0}) Refusal)) → TakingGiven places cells s o → o.answer ≡ (taken_in places cells s).answer
  taking_only o (TakingGiven.bad_store m) = rw (misshapen_is places cells m)
  taking_only o (TakingGiven.not_read h e g) = rw (shaped_is places cells h, given_refused s e g)
  taking_only o (TakingGiven.taken h sound walks c) = rw (shaped_is places cells h) (sound_taken sound walks (decode_packet s) refl)

  read_given : Shaped places cells → (d : Decoded) → decode_packet s ≡ d → TakingGiven places cells s (taken_as_of d places cells)
  read_given h (packet p) d = let k = accepted_when s p d in TakingGiven.taken h k.0 k.1 _
  read_given h (refused e) d = TakingGiven.not_read h e (refused_given s e d)

  shape_given : Shape places cells → TakingGiven places cells s (taken_in places cells s)
  shape_given (wrong m) = rw (misshapen_is places cells m) (TakingGiven.bad_store m)
  shape_given (right h) = rw (shaped_is places cells h) (read_given h (decode_packet s) refl)

  -- the answer is given for the reason that the rules name
  pub taking_given : TakingGiven places cells s (taken_in places cells s)
  taking_given = shape_given (shape_of places cells)

  -- a refused packet changes nothing
  given_kept : (o : CellsAfter (Result (Unit {0}) Refusal)) → TakingGiven places cells s o → (e : Refusal) → o.answer ≡ Err e → o.cells ≡ cells
  given_kept o (TakingGiven.bad_store m) e q = refl
  given_kept o (TakingGiven.not_read h x g) e q = refl
  given_kept o (TakingGiven.taken h sound walks c) e q = never (cc)

  pub refused_taking : (e : Refusal) → (taken_in places cells s).answer ≡ Err e → (taken_in places cells s).cells ≡ cells
  refused_taking e q = given_kept (taken_in places cells s) taking_given e q

  -- ---- the numbers that can come

  given_numbers : (o : CellsAfter (Result (Unit {0}) Refusal)) → TakingGiven places cells s o → (e : Refusal) → o.answer ≡ Err e → OneOf (number_of e) taking_numbers
  given_numbers o (TakingGiven.bad_store m) e q = same_number taking_numbers BadStore e (cc) (inl refl)
  given_numbers o (TakingGiven.not_read h x g) e q = same_number taking_numbers x e (cc) (inr (reader_numbers_lem s x g))
  given_numbers o (TakingGiven.taken h sound walks c) e q = never (cc)

  pub taking_numbers_lem : (e : Refusal) → (taken_in places cells s).answer ≡ Err e → OneOf (number_of e) taking_numbers
  taking_numbers_lem e q = given_numbers (taken_in places cells s) taking_given e q
