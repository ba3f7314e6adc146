-- What stands at an offset of a datagram, by the octets there; n is the length field. Assumes nothing.
use Prim.Native.Nat.{ℕ, ◌+◌, ◌*◌, ◌/◌, ◌%◌, ◌<◌, ◌≤◌}
use mathlib.Core.Path.{◌≡◌, sym, ap, ◌∙◌}
use mathlib.Core.List.{List}
use native.Mathlib.Omega.{arith}
use native.Mathlib.Nat.{add-zero}
use lib.ListN.{length, drop, get_or, length-drop}
use lib.Seq.{get_or-drop}
use Rattle.octets.specs.Octets.{be16}
use Rattle.octets.proofs.Parts.{dropped16}
use Rattle.packet_header.specs.Header.{length_of}
use Rattle.datagram.specs.Walk.{packet_here, packet_at_of}
use Rattle.datagram.specs.declared.RtcpPacket.{RtcpPacket}
use Rattle.std.specs.Prelude.{Some, Ok, Err}
use Rattle.refusal.specs.declared.Refusal.TheVariants.{BadDatagram}
use Rattle.datagram.proofs.Steps.{step_end, front_few, front_version, front_past, front_padded, front_unpadded, front_last}

module _ (s : List ℕ) (at : ℕ) where
  first : get_or (drop at s) 0 0 ≡ get_or s at 0
  first = get_or-drop at s 0 0 ∙ ap (λ (i : ℕ). get_or s i 0) (add-zero at)

  pub step_few : at < length s → length s < at + 4 → Err BadDatagram ≡ packet_at_of s at
  unfolding packet_at_of
  step_few h f = front_few (drop at s) at (omega (arith, length-drop at s)) (omega (arith, length-drop at s))

  module _ (header : at + 4 ≤ length s) where
    long : 4 ≤ length (drop at s)
    long = omega (arith, length-drop at s)

    pub step_version : (get_or s at 0 / 64 ≡ 2 → ⊥) → Err BadDatagram ≡ packet_at_of s at
    unfolding packet_at_of
    step_version v = front_version (drop at s) at long (rw first v)

    module _ (version : get_or s at 0 / 64 ≡ 2) (n : ℕ) (field : n ≡ be16 s (at + 2)) where
      words : length_of (drop at s) ≡ 4 * (n + 1)
      words = rw (dropped16 s at 2, field)

      pub step_past : length s < at + 4 * (n + 1) → Err BadDatagram ≡ packet_at_of s at
      unfolding packet_at_of
      step_past l = front_past (drop at s) at long (rw first version) (omega (arith, length-drop at s, words))

      pub step_padded : at + 4 * (n + 1) < length s → (get_or s at 0 / 32 % 2 ≡ 0 → ⊥) → Err BadDatagram ≡ packet_at_of s at
      unfolding packet_at_of
      step_padded l p =
          front_padded (drop at s) at long (rw first version)
          (omega (arith, length-drop at s, words)) (omega (arith, length-drop at s, words)) (rw first p)

      abbrev stands : RtcpPacket
      stands = record { packet_type = get_or s (at + 1) 0; format = get_or s at 0 % 32; at = at; size = 4 * (n + 1) }

      here : packet_here (drop at s) at ≡ stands
      here = rw (get_or-drop at s 1 0, first, dropped16 s at 2, field)

      pub step_unpadded : at + 4 * (n + 1) ≤ length s → get_or s at 0 / 32 % 2 ≡ 0 → Ok (Some stands) ≡ packet_at_of s at
      unfolding packet_at_of
      step_unpadded l p =
          ap (λ (x : RtcpPacket). Ok (Some x)) (sym here)
          ∙ front_unpadded (drop at s) at long (rw first version) (omega (arith, length-drop at s, words)) (rw first p)

      pub step_last : at + 4 * (n + 1) ≡ length s → Ok (Some stands) ≡ packet_at_of s at
      unfolding packet_at_of
      step_last l =
          ap (λ (x : RtcpPacket). Ok (Some x)) (sym here)
          ∙ front_last (drop at s) at long (rw first version)
          (omega (arith, length-drop at s, words)) (omega (arith, length-drop at s, words))

-- every case
pub ruleset steps = (step_end, step_few, step_version, step_past, step_padded, step_unpadded, step_last)
