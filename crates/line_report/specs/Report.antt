-- Rules: "ccfbline", rule "Report". The text that is printed for requests of four numbers each, for
-- any store: a packet as a line of hex, or the writer's refusal.
use Rattle.std.specs.Prelude.{ℕ, ◌+◌, ◌*◌, ◌≡◌, cond, List, [], ◌∷◌, ◌++◌, Result, Ok, Err}
use Rattle.lists.specs.All.{All}
use Rattle.refusal.specs.declared.Refusal.TheVariants.{BadStore}
use Rattle.places.specs.Shape.{shaped}
use Rattle.cutting.specs.declared.Request.{Request}
use Rattle.requests.specs.Requests.{checked}
use Rattle.refusal.specs.declared.Refusal.{Refusal}
use Rattle.blocks.specs.Packets.{packets_for}
use Rattle.line_hex.specs.Hex.{hex_line}
use Rattle.line_refusal.specs.Refused.{refused_line}
use Rattle.packet.specs.Packet as packet

-- so many numbers of each stream
abbrev pub newest_numbers : ℕ
newest_numbers = 4

abbrev pub FourEach : List Request → Type 0
FourEach rs = All (λ r. r.count ≡ newest_numbers) rs

-- each packet is one line
unfoldable pub lines_of : List packet.Packet → List ℕ
lines_of [] = []
lines_of (p ∷ ps) = hex_line (packet.encode_packet p) ++ lines_of ps

-- the SSRC of the packet's sender, and the limit of a packet in octets
abbrev pub line_sender : ℕ
line_sender = 0x000000F1

abbrev pub line_limit : ℕ
line_limit = 1200

abbrev pub requested_lines : List ℕ → List ℕ → ℕ → List Request → List ℕ
requested_lines places cells rts rs = lines_of (packets_for places cells line_sender rts line_limit rs)

-- room for a packet on 16 streams, four numbers of each: 16 blocks of 16 octets, and 12 octets besides
abbrev pub packet_room : ℕ
packet_room = 268

-- room for its line: two digits for each octet, and the newline
abbrev pub line_room : ℕ
line_room = 2 * packet_room + 1

-- any store: the writer may refuse it
abbrev pub if_reported : Result (Unit {0}) Refusal → List ℕ → List ℕ
if_reported (Ok tt) text = text
if_reported (Err e) text = refused_line e

unfoldable pub requested_text : List ℕ → List ℕ → ℕ → List Request → List ℕ
requested_text places cells rts rs =
    cond (shaped places cells) (if_reported (checked places [] rs) (requested_lines places cells rts rs)) (refused_line BadStore)
