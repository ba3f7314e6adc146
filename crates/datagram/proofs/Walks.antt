-- The walk over a datagram, a step at a time. Assumes nothing.
use Prim.Native.Nat.{ℕ, zero, suc, ◌+◌, ◌≤◌}
use mathlib.Core.Path.{◌≡◌, refl, ap, ◌∙◌}
use mathlib.Core.List.{List, []}
use native.Mathlib.Omega.{arith}
use lib.ListN.{length, drop}
use Rattle.datagram.specs.Datagram.{NoPacketIn}
use Rattle.datagram.specs.Walk.{packet_at_of, Parsed, packets, broken, in_front, packet_end, onward, walk, packets_from}
use Rattle.datagram.specs.declared.RtcpPacket.{RtcpPacket}
use Rattle.std.specs.Prelude.{Option, Result, Some, None, Ok, Err}
use Rattle.refusal.specs.declared.Refusal.{Refusal}
use Rattle.refusal.specs.declared.Refusal.TheVariants.{BadDatagram}
use Rattle.datagram.proofs.Steps.{step_end, ended, no_packet_lem, found_more}

module _ (s : List ℕ) where
  -- any bound that is enough gives the same walk
  pub walk_enough : (n m at : ℕ) → length s ≤ n + at → length s ≤ m + at → walk n s at ≡ walk m s at
  unfolding walk
  walk_enough zero zero at g h = refl
  walk_enough zero (suc m) at g h = rw (← step_end s at (omega arith))
  walk_enough (suc n) zero at g h = rw (← step_end s at (omega arith))
  walk_enough (suc n) (suc m) at g h =
      by_step (packet_at_of s at)
      (λ p f. walk_enough n m (packet_end p) (omega (arith, found_more s at p f)) (omega (arith, found_more s at p f))) refl
    where
      by_step : (k : Result (Option RtcpPacket) Refusal) → ((p : RtcpPacket) → packet_at_of s at ≡ Ok (Some p) → walk n s (packet_end p) ≡ walk m s (packet_end p)) → packet_at_of s at ≡ k
          → onward k (λ i. walk n s i) ≡ onward k (λ i. walk m s i)
      by_step (Ok (Some p)) rest f = ap (in_front p) (rest p f)
      by_step (Ok None) rest f = refl
      by_step (Err x) rest f = refl

  -- the walk that starts at an offset is what stands there, and the walk behind it
  pub walk_step : (at : ℕ) → packets_from s at ≡ onward (packet_at_of s at) (packets_from s)
  unfolding walk
  walk_step at = walk_enough (length s) (suc (length s)) at (omega arith) (omega arith)

  module _ (at : ℕ) (k : Result (Option RtcpPacket) Refusal) (is : k ≡ packet_at_of s at) where
    pub walk_packet : (p : RtcpPacket) → k ≡ Ok (Some p) → packets_from s at ≡ in_front p (packets_from s (packet_end p))
    walk_packet p e = walk_step at ∙ rw (← is, e)

    pub walk_end : k ≡ Ok None → packets_from s at ≡ packets []
    walk_end e = walk_step at ∙ rw (← is, e)

    pub walk_broken : (x : Refusal) → k ≡ Err x → packets_from s at ≡ broken
    walk_broken x e = walk_step at ∙ rw (← is, e)

-- To show P of every walk over a datagram, show it at the end, at octets that are no packet, and with a packet in front.
module _ (s : List ℕ) (P : ℕ → Parsed → Type 0) (end : (at : ℕ) → length s ≤ at → P at (packets []))
    (none : (at : ℕ) → NoPacketIn (drop at s) → P at broken)
    (more : (at : ℕ) (p : RtcpPacket) (w : Parsed) → packet_at_of s at ≡ Ok (Some p) → P (packet_end p) w → P at (in_front p w)) where
  walk_ind_by : (n at : ℕ) → length s ≤ n + at → P at (walk n s at)
  unfolding walk
  walk_ind_by zero at l = end at (omega arith)
  walk_ind_by (suc n) at l =
      by_step (packet_at_of s at) refl (λ p f. walk_ind_by n (packet_end p) (omega (arith, found_more s at p f)))
    where
      by_step : (k : Result (Option RtcpPacket) Refusal) → packet_at_of s at ≡ k → ((p : RtcpPacket) → packet_at_of s at ≡ Ok (Some p) → P (packet_end p) (walk n s (packet_end p)))
          → P at (onward k (λ i. walk n s i))
      by_step (Ok (Some p)) f rest = more at p (walk n s (packet_end p)) f (rest p f)
      by_step (Ok None) f rest = end at (ended s at f)
      by_step (Err x) f rest = none at (no_packet_lem s at x f)

  pub walk_ind : (at : ℕ) → P at (packets_from s at)
  walk_ind at = walk_ind_by (length s) at (omega arith)
