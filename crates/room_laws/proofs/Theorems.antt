-- An output with the room of CCFB_ROOM is never too short. Assumes nothing.
use mathlib.Core.Path.{◌≡◌, ap}
use mathlib.Core.List.{List}
use Prim.Native.Nat.{ℕ, ◌≤◌}
use native.Mathlib.Omega.{arith}
use lib.ListN.{length}
use Rattle.refusal.specs.Numbers.{number_of}
use Rattle.cutting.specs.declared.Request.{Request}
use Rattle.std.specs.Prelude.{Result, Ok, Err}
use Rattle.plan_size.specs.declared.Total.{Total}
use Rattle.refusal.specs.declared.Refusal.{Refusal}
use Rattle.writer.specs.Written.{written}
use Rattle.writer_laws.specs.Refused.{FirstFault, here, later, WritingGiven, in_request, too_short_of}
use Rattle.writer_laws.proofs.Refusals.{length_octets, refusals}
use Rattle.ccfb_writer.specs.Writing.{write_called_by, write_called}
use Rattle.call_laws.proofs.Numbers.{own_number}
use Rattle.room_laws.specs.Room.{room_of_requests}
use Rattle.room_laws.proofs.Enough.{room_enough}
use Rattle.refusal.specs.declared.Refusal.TheVariants.{OutputTooShort}

-- what is wrong with a request is not the output
no_fault : (places : List ℕ) (earlier rs : List Request) → FirstFault places earlier rs OutputTooShort → ⊥
no_fault places _ _ (here f) = elim f [ ]
no_fault places earlier rs (later p s f) = no_fault places _ _ f

-- ccfb_write answers 10 only where the writer's output is too short
answers_10 : (a : Result Total Refusal) (out : List ℕ) (packets octets : ℕ)
    → (write_called_by a out packets octets).answer ≡ number_of OutputTooShort → a ≡ Err OutputTooShort
answers_10 (Ok t) out packets octets h = absurd (omega arith)
answers_10 (Err e) out packets octets h = ap Err (own_number e OutputTooShort h)

module _ (places cells : List ℕ) (sender rts limit n : ℕ) (rs : List Request) (out : List ℕ) (enough : room_of_requests rs ≤ length out) where
  not_given : WritingGiven places cells sender rts limit n rs out OutputTooShort → ⊥
  not_given (in_request h f) = no_fault places _ rs f
  not_given (too_short_of h a l) =
      absurd (omega (arith, length_octets places cells sender rts limit n rs out, room_enough limit rs h.least))

  -- whatever the store holds, and whatever else is asked
  pub room_not_short : (written places cells sender rts limit n rs out).answer ≡ Err OutputTooShort → ⊥
  room_not_short e = not_given ((refusals places cells sender rts limit n rs out OutputTooShort).0 e)

  -- and so ccfb_write does not answer 10
  pub call_not_short : (packets octets : ℕ)
      → (write_called (written places cells sender rts limit n rs out) packets octets).answer ≡ number_of OutputTooShort → ⊥
  call_not_short packets octets e =
      let w = written places cells sender rts limit n rs out in
      room_not_short (answers_10 w.answer w.output packets octets e)
