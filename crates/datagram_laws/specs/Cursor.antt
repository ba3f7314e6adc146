-- Rules: "Datagram", rule "Packet by packet". A caller's walk over a datagram s, which may be any
-- octets: `ccfb_next_packet` at the offset 0, and then each call at the offset that the call before
-- left. It is defined by what the call answers, as its contract says it.
use Rattle.std.specs.Prelude.{ℕ, ◌≡◌, List, [], ◌∷◌}
use Rattle.refusal.specs.declared.Refusal.{Refusal}
use Rattle.ccfb_calls.specs.Called.{Called, refused_with}
use Rattle.datagram.specs.Walk.{packet_at_of, packet_end}
use Rattle.datagram.specs.declared.RtcpPacket.{RtcpPacket}
use Rattle.ccfb_datagram.specs.Datagrams.{packet_given, packet_called}

-- the call at an offset, by its contract; `others` stood behind its other four pointers
abbrev pub next_call : List ℕ → ℕ → List ℕ → Called
next_call s at others = packet_called (packet_at_of s at) (at ∷ others)

-- from an offset on the calls give these packets, which may be none, and then the refusal e, whatever stood behind
-- their pointers
pub data CallsGive (s : List ℕ) (e : Refusal) : ℕ → List RtcpPacket → Type 0 where
  end : {at : ℕ} → ((others : List ℕ) → next_call s at others ≡ refused_with e (at ∷ others)) → CallsGive s e at []
  next : {at : ℕ} (p : RtcpPacket) {ps : List RtcpPacket} → ((others : List ℕ) → next_call s at others ≡ packet_given p)
      → CallsGive s e (packet_end p) ps → CallsGive s e at (p ∷ ps)
