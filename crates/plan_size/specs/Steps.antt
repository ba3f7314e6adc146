-- The steps of the code: what a range adds to a plan, by division. No statement for a caller needs these.
use Rattle.std.specs.Prelude.{◌≡◌, List, ◌∷◌, ℕ, ◌+◌, ◌-◌, ◌*◌, ◌^◌, ◌≤◌, ◌<◌, length}
use Rattle.packet.specs.Sizes.{blocks_octets}
use Rattle.plan_size.specs.declared.Added.{Added}
use Rattle.cutting.specs.Limits.{most_limit}
use Rattle.cutting.specs.Cutting.{CutBlock, counts}
use Rattle.cutting.specs.Plan.{filled_from, plan_from, total_octets}

-- q packets of `most` numbers each leave some of `count` numbers, which go into one more packet; where there
-- are no numbers, q is 0
pub record FullPackets (most count q : ℕ) : Type 0 where
  pub within : q * most ≤ count
  pub last : count - q * most ≤ most
  pub more : 0 < q → q * most < count

-- where `room` octets are left in a packet: the packets after it, and the octets still to be written
abbrev pub packets_behind : ℕ → ℕ → List CutBlock → ℕ
packets_behind limit room w = length (plan_from limit (filled_from room w).rest)

abbrev pub octets_behind : ℕ → ℕ → List CutBlock → ℕ
octets_behind limit room w =
    blocks_octets (counts (filled_from room w).packet) + total_octets (plan_from limit (filled_from room w).rest)

-- a range has fewer than 2^16 numbers, and each packet before its last takes two or more: it adds at most so
-- many
abbrev pub most_added : ℕ
most_added = 2 ^ 15

-- a range of `count` numbers adds so many packets and octets, and leaves so much room, whatever comes after
pub record Adds (limit room count : ℕ) (r : Added) : Type 0 where
  pub packets : (b : CutBlock) (w : List CutBlock) → b.count ≡ count
      → packets_behind limit room (b ∷ w) ≡ r.packets + packets_behind limit r.room w
  pub octets : (b : CutBlock) (w : List CutBlock) → b.count ≡ count
      → octets_behind limit room (b ∷ w) ≡ r.octets + octets_behind limit r.room w
  pub few : r.packets ≤ most_added
  pub small : r.octets ≤ most_added * most_limit + room
  pub left : r.room ≤ most_limit
