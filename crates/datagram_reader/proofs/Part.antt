-- The answer about the part that is CCFB packet k, as its octets and as the number of its refusal. Assumes nothing.
use Rattle.std.proofs.Common.{◌≡◌, ℕ, List, [], refl, ap}
use Rattle.std.specs.Prelude.{Result, Ok, Err}
use Rattle.lists.proofs.Cases.{never}
use Rattle.refusal.specs.Numbers.{number_of}
use Rattle.refusal.specs.declared.Refusal.{Refusal}
use Rattle.datagram.specs.declared.RtcpPacket.{RtcpPacket}
use Rattle.datagram_reader.specs.Reading.{read_feedback, feedback_part, feedback_refusal, found_part, read_part}

module _ (s : List ℕ) where
  found : (r : Result RtcpPacket Refusal) (part : List ℕ) → found_part r s ≡ Ok part → (feedback_part r s ≡ part) × (feedback_refusal r ≡ 0)
  found (Ok p) part e = (cc, refl)
  found (Err x) part e = never (cc)

  refused : (r : Result RtcpPacket Refusal) (x : Refusal) → found_part r s ≡ Err x → (feedback_part r s ≡ []) × (feedback_refusal r ≡ number_of x)
  refused (Ok p) x e = never (cc)
  refused (Err y) x e = let z : y ≡ x = cc in (refl, ap number_of z)

  module _ (k : ℕ) where
    -- a part that is given is that of the packet
    pub part_found : (part : List ℕ) → read_part s k ≡ Ok part
        → (feedback_part (read_feedback s k) s ≡ part) × (feedback_refusal (read_feedback s k) ≡ 0)
    part_found part e = found (read_feedback s k) part e

    -- a part is refused where the packet is, and as the packet is
    pub part_refused : (x : Refusal) → read_part s k ≡ Err x
        → (feedback_part (read_feedback s k) s ≡ []) × (feedback_refusal (read_feedback s k) ≡ number_of x)
    part_refused x e = refused (read_feedback s k) x e
