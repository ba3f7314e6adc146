-- Rules: "Datagram". What the calls for C about a datagram answer and leave behind their pointers:
-- from the answers of the layers below, and from what stood there before.
use Rattle.std.specs.Prelude.{ℕ, List, [], ◌∷◌, Option, Result, Some, None, Ok, Err}
use Rattle.refusal.specs.Numbers.{number_of}
use Rattle.ccfb_calls.specs.Called.{Called, called, refused_with}
use Rattle.datagram.specs.Walk.{packet_end}
use Rattle.datagram.specs.declared.RtcpPacket.{RtcpPacket}
use Rattle.refusal.specs.declared.Refusal.{Refusal}
use Rattle.refusal.specs.declared.Refusal.TheVariants.{BadDatagram, NoPacket}

-- `ccfb_feedback_count`
abbrev pub count_called : Result ℕ Refusal → List ℕ → Called
count_called (Ok n) before = called 0 (n ∷ [])
count_called (Err e) before = refused_with e before

-- `ccfb_feedback`: the packet's offset, and how many octets it has; both 0 where refused
abbrev pub feedback_called : Result RtcpPacket Refusal → Called
feedback_called (Ok p) = called 0 (p.at ∷ p.size ∷ [])
feedback_called (Err e) = called (number_of e) (0 ∷ 0 ∷ [])

-- 0, where a packet ends, its type and FMT, its offset, and how many octets it has
abbrev pub packet_given : RtcpPacket → Called
packet_given p = called 0 (packet_end p ∷ p.packet_type ∷ p.format ∷ p.at ∷ p.size ∷ [])

-- `ccfb_next_packet`
abbrev pub packet_called : Result (Option RtcpPacket) Refusal → List ℕ → Called
packet_called (Ok (Some p)) before = packet_given p
packet_called (Ok None) before = refused_with NoPacket before
packet_called (Err e) before = refused_with e before
