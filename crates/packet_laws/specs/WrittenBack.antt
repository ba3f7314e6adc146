-- Rules: "Reader", rule "Written and read". What is accepted is, octet by octet, the packet that is
-- read.
use Rattle.std.specs.Prelude.{ℕ, ◌≡◌, List}
use Rattle.packet.specs.Packet.{Packet, encode_packet, Fit}

-- s are the octets of p, whose fields fit
pub record WrittenAs (s : List ℕ) (p : Packet) : Type 0 where
  pub octets : s ≡ encode_packet p
  pub fit : Fit p
