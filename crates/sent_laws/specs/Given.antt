-- Rules: "Refusals", "Order of refusals", "Sent packets". When each call of a sender gives which
-- answer, one case for each rule, for a store of any lent content. Of several refusals that apply
-- the first is given, in the order that stands at each call.
use Rattle.std.specs.Prelude.{ℕ, ◌≤◌, ◌<◌, ◌≡◌, List, [], ◌∷◌, Result, Some, None, Ok, Err}
use Rattle.refusal.specs.declared.Refusal.{Refusal}
use Rattle.ring.specs.Ring.{cells_of_a_place}
use Rattle.window.specs.Number.{distance_of}
use Rattle.places.specs.Shape.{Shaped, Misshapen}
use Rattle.places.specs.Held.{Unheld, HeldAt}
use Rattle.places.specs.After.{StoreAfter}
use Rattle.place_window.specs.Window.{cell_at}
use Rattle.packet.specs.Sizes.{packet_header_octets}
use Rattle.walk.specs.Walk.{rts_at}
use Rattle.packet_laws.specs.Refused.{Sound, Walks, ReadingGiven, reader_numbers}
use Rattle.place_window.specs.Given.{AdmissionGiven}
use Rattle.sent_word.specs.Word.{read_word_of}
use Rattle.sent_word.specs.declared.Status.{Status}
use Rattle.sent_register.specs.Register.{registration_refused}
use Rattle.sent_feedback.specs.TakeIn.{CellsAfter, cells_after}
use Rattle.refusal.specs.declared.Refusal.TheVariants.{BadStore, NotHeld, NotRegistered}

-- registering: 4; 3 if the stream is held, else 2. A refused one leaves the store as it was
pub data RegistrationGiven (places cells : List ℕ) (ssrc number : ℕ) : StoreAfter (Result (Unit {0}) Refusal) → Type 0 where
  bad_store : Misshapen places cells → RegistrationGiven places cells ssrc number (registration_refused BadStore places cells)
  shaped : Shaped places cells → (o : StoreAfter (Result (Unit {0}) Refusal))
      → AdmissionGiven (Ok tt) Err places cells ssrc number o → RegistrationGiven places cells ssrc number o

-- asking: 4, 5, then 37 outside the window, and for what was never registered
pub data StatusGiven (places cells : List ℕ) (ssrc number : ℕ) : Result Status Refusal → Type 0 where
  bad_store : Misshapen places cells → StatusGiven places cells ssrc number (Err BadStore)
  not_held : Shaped places cells → Unheld places ssrc → StatusGiven places cells ssrc number (Err NotHeld)
  outside : Shaped places cells → (p high : ℕ) → HeldAt places ssrc p high → cells_of_a_place ≤ distance_of high number
      → StatusGiven places cells ssrc number (Err NotRegistered)
  not_registered : Shaped places cells → (p high : ℕ) → HeldAt places ssrc p high → distance_of high number < cells_of_a_place
      → read_word_of (cell_at cells p number) ≡ None → StatusGiven places cells ssrc number (Err NotRegistered)
  known : Shaped places cells → (p high : ℕ) → HeldAt places ssrc p high → distance_of high number < cells_of_a_place → (s : Status)
      → read_word_of (cell_at cells p number) ≡ Some s → StatusGiven places cells ssrc number (Ok s)

-- taking in: 4, then the reader's. A refused packet leaves the cells as they were; a packet is taken
-- in if its header is sound and sound blocks fill the room up to RTS
pub data TakingGiven (places cells s : List ℕ) : CellsAfter (Result (Unit {0}) Refusal) → Type 0 where
  bad_store : Misshapen places cells → TakingGiven places cells s (cells_after (Err BadStore) cells)
  not_read : Shaped places cells → (e : Refusal) → ReadingGiven s e → TakingGiven places cells s (cells_after (Err e) cells)
  taken : Shaped places cells → Sound s → Walks s packet_header_octets (rts_at s) → (cells' : List ℕ)
      → TakingGiven places cells s (cells_after (Ok tt) cells')

-- ---- the numbers that can come

abbrev pub registration_numbers : List ℕ
registration_numbers = 4 ∷ 3 ∷ 2 ∷ []

abbrev pub status_numbers : List ℕ
status_numbers = 4 ∷ 5 ∷ 37 ∷ []

abbrev pub taking_numbers : List ℕ
taking_numbers = 4 ∷ reader_numbers
