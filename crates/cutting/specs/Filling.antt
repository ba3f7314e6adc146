-- Rules: "How packets are filled". How full the packets of a cutting are: the number or the empty
-- block that a packet begins with did not fit in the packet before. This is no packet rule, and no
-- algorithm stands here: it says of any cutting whether it is filled as ours.
use Rattle.std.specs.Prelude.{ℕ, suc, ◌<◌, cond, [], ◌∷◌, ◌==◌}
use Rattle.packet.specs.Sizes.{packet_octets}
use Rattle.cutting.specs.Cutting.{CutBlock, CutPacket, Cutting, counts, rounded_down}

-- a block with one number more
abbrev pub one_more_of : CutBlock → CutBlock
one_more_of b = record { request = b.request; begin = b.begin; count = suc b.count }

-- the first number of a block, as a block of its own; an empty block is left as it is
abbrev pub first_of : CutBlock → CutBlock
first_of b = record { request = b.request; begin = b.begin; count = cond (b.count == 0) 0 1 }

-- The packet with the first number of b behind what it has, or with b itself where b is empty: its last block
-- has one number more if that is of the same request, else there is one block more.
abbrev pub with_next : CutPacket → CutBlock → CutPacket
with_next [] b = first_of b ∷ []
with_next (a ∷ []) b = cond (a.request == b.request) (one_more_of a ∷ []) (a ∷ first_of b ∷ [])
with_next (a ∷ d ∷ p) b = a ∷ with_next (d ∷ p) b

-- Two consecutive packets: the second begins with a block, and with the first number of that block, or with the
-- empty block, the first packet would be over the limit.
abbrev pub NextDoesNotFit : ℕ → CutPacket → CutPacket → Type 0
NextDoesNotFit limit p [] = ⊥
NextDoesNotFit limit p (b ∷ q) = rounded_down limit < packet_octets (counts (with_next p b))

-- rule "Filled up", of each packet but the last
abbrev pub FilledUp : ℕ → Cutting → Type 0
FilledUp limit [] = Unit {0}
FilledUp limit (p ∷ []) = Unit {0}
FilledUp limit (p ∷ q ∷ c) = NextDoesNotFit limit p q × FilledUp limit (q ∷ c)
