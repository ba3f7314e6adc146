-- Rules: "How packets are filled". The plan, how our writer cuts: it closes a packet only when the
-- next number, or the next empty block, does not fit.
use Rattle.std.specs.Prelude.{ℕ, zero, suc, ◌+◌, ◌-◌, ◌*◌, ◌/◌, cond, List, [], ◌∷◌, nat_le}
use Rattle.packet.specs.Sizes.{block_header_octets, block_octets, packet_frame, packet_octets}
use Rattle.cutting.specs.declared.Request.{Request}
use Rattle.cutting.specs.declared.NextBlock.{NextBlock}
use Rattle.cutting.specs.Cutting.{CutBlock, CutPacket, Cutting, following, whole_blocks, counts}
use Rattle.cutting.specs.declared.NextBlock.TheVariants.{Whole, Part, Closed}

-- how many numbers a block can have in `room` octets
abbrev pub fitting : ℕ → ℕ
fitting room = (room - block_header_octets) / 4 * 2

-- what of a range of `count` numbers goes into the room left
unfoldable pub next_block : ℕ → ℕ → NextBlock
next_block room count =
    cond (nat_le (block_octets count) room) Whole (cond (nat_le 1 (fitting room)) (Part (fitting room)) Closed)

-- the number j after s
abbrev pub number_after : ℕ → ℕ → ℕ
number_after s zero = s
number_after s (suc j) = number_after (following s) j

-- the first j numbers of a block, and those after them
abbrev pub first_numbers : CutBlock → ℕ → CutBlock
first_numbers b j = record { request = b.request; begin = b.begin; count = j }

abbrev pub later_numbers : CutBlock → ℕ → CutBlock
later_numbers b j = record { request = b.request; begin = number_after b.begin j; count = b.count - j }

-- the blocks that fill the rest of a packet, and what is left to report after them
pub record Filled : Type 0 where
  pub packet : CutPacket
  pub rest : List CutBlock

abbrev pub closed : List CutBlock → Filled
closed w = record { packet = []; rest = w }

abbrev pub onto : CutBlock → Filled → Filled
onto b f = record { packet = b ∷ f.packet; rest = f.rest }

-- the next range is b, the others are w, and f is how the packet goes on after the whole of b
abbrev pub filled_by : NextBlock → CutBlock → List CutBlock → Filled → Filled
filled_by Whole b w f = onto b f
filled_by (Part j) b w f = onto (first_numbers b j) (closed (later_numbers b j ∷ w))
filled_by Closed b w f = closed (b ∷ w)

-- how a packet with that room is filled from what there is to report
unfoldable pub filled_from : ℕ → List CutBlock → Filled
filled_from room [] = closed []
filled_from room (b ∷ w) =
    let f : Filled = filled_from (room - block_octets b.count) w in
    filled_by (next_block room b.count) b w f

-- packet after packet, at most `most`
unfoldable pub packets_from : ℕ → ℕ → List CutBlock → Cutting
packets_from zero limit w = []
packets_from (suc most) limit [] = []
packets_from (suc most) limit (b ∷ w) =
    let f : Filled = filled_from (limit - packet_frame) (b ∷ w) in f.packet ∷ packets_from most limit f.rest

-- as many packets as there can be: each takes a number or an empty block
abbrev pub most_packets : List CutBlock → ℕ
most_packets [] = 0
most_packets (b ∷ w) = suc (b.count + most_packets w)

-- the packets of what is left to report, and of the requests
abbrev pub plan_from : ℕ → List CutBlock → Cutting
plan_from limit w = packets_from (most_packets w) limit w

abbrev pub plan : ℕ → List Request → Cutting
plan limit rs = plan_from limit (whole_blocks 0 rs)

-- the octets of all packets
abbrev pub total_octets : Cutting → ℕ
total_octets [] = 0
total_octets (p ∷ c) = packet_octets (counts p) + total_octets c
