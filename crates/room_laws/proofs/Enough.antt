-- The plan's octets are no more than the room. The frame of a packet, 12 octets, is counted with
-- its first block. A block of k numbers takes at most 10 + 2k octets, and 8 if it is empty. Where
-- it is the last of its request, this and a frame are at most 12k + 20. Where it is not, it fills
-- the packet, so k is even and not 0, and 20 + 2k is at most 12k. Assumes nothing.
use mathlib.Core.Path.{◌≡◌, refl}
use mathlib.Core.List.{List, [], ◌∷◌}
use Prim.Native.Nat.{ℕ, zero, suc, ◌+◌, ◌-◌, ◌≤◌}
use native.Mathlib.Omega.{arith}
use lib.ListN.{length}
use Rattle.packet.specs.Sizes.{block_octets, blocks_octets, packet_octets}
use Rattle.cutting.specs.Cutting.{CutBlock, whole_blocks, counts}
use Rattle.cutting.specs.Limits.{least_limit}
use Rattle.cutting.specs.Plan.{filled_from, packets_from, most_packets, plan, total_octets}
use Rattle.cutting.specs.declared.Request.{Request}
use Rattle.cutting.proofs.Plan.{filled_none, filled_cases}
use Rattle.cutting.proofs.FromRules.{length_whole}
use Rattle.room_laws.specs.Room.{number_octets, request_octets, room, sum_of_counts, room_of_requests, Suffice}

-- ---- what is left to report, and the room for it

numbers_left : List CutBlock → ℕ
numbers_left [] = 0
numbers_left (b ∷ w) = b.count + numbers_left w

abbrev room_left : List CutBlock → ℕ
room_left w = room (numbers_left w) (length w)

counts_whole : (n : ℕ) (rs : List Request) → numbers_left (whole_blocks n rs) ≡ sum_of_counts rs
unfolding numbers_left
counts_whole n [] = refl
counts_whole n (r ∷ rs) = omega (arith, counts_whole (suc n) rs)

-- ---- a packet

-- blocks without the frame
blocks_within : (left : ℕ) (w : List CutBlock)
    → blocks_octets (counts (filled_from left w).packet) + room_left (filled_from left w).rest ≤ room_left w
unfolding numbers_left
blocks_within left [] = rw (filled_none left) (omega arith)
blocks_within left (b ∷ w) =
    filled_cases (λ f. blocks_octets (counts f.packet) + room_left f.rest ≤ room_left (b ∷ w)) left b w
    (λ h. omega (arith, blocks_within (left - block_octets b.count) w))
    (λ h k. omega arith)
    (λ h k. omega arith)

-- the frame with the first block
packet_within : (left : ℕ) (b : CutBlock) (w : List CutBlock) → 12 ≤ left
    → packet_octets (counts (filled_from left (b ∷ w)).packet) + room_left (filled_from left (b ∷ w)).rest ≤ room_left (b ∷ w)
unfolding numbers_left
packet_within left b w l =
    filled_cases (λ f. packet_octets (counts f.packet) + room_left f.rest ≤ room_left (b ∷ w)) left b w
    (λ h. omega (arith, blocks_within (left - block_octets b.count) w))
    (λ h k. omega arith)
    (λ h k. absurd (omega arith))

-- ---- packet after packet

packets_within : (most limit : ℕ) (w : List CutBlock) → least_limit ≤ limit → total_octets (packets_from most limit w) ≤ room_left w
unfolding packets_from
packets_within zero limit w l = omega arith
packets_within (suc most) limit [] l = omega arith
packets_within (suc most) limit (b ∷ w) l =
    omega (arith, packet_within (limit - 12) b w (omega arith), packets_within most limit (filled_from (limit - 12) (b ∷ w)).rest l)

-- the octets of the plan, at any limit of 24 or more
pub room_enough : (limit : ℕ) (rs : List Request) → least_limit ≤ limit → total_octets (plan limit rs) ≤ room_of_requests rs
room_enough limit rs l =
    let w : List CutBlock = whole_blocks 0 rs in
    omega (arith, packets_within (most_packets w) limit w l, counts_whole 0 rs, length_whole 0 rs)

-- the same, said of the two numbers of octets
pub room_suffices : Suffice number_octets request_octets
room_suffices limit rs l m f c = omega (arith, room_enough limit rs l)
