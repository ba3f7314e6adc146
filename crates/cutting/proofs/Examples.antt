-- Cuttings, computed: the plan at the edges, and cuttings that are not filled as ours. Assumes nothing.
use Rattle.std.proofs.Common.{◌≡◌, ℕ, ◌<◌, ◌≤◌, List, [], ◌∷◌, map, length, refl, append-nil, arith}
use Rattle.lists.specs.All.{All}
use Rattle.packet.specs.Sizes.{packet_octets}
use Rattle.cutting.specs.declared.Request.{Request}
use Rattle.cutting.specs.Cutting.{CutBlock, Cutting, numbers_from, numbers_reported, RangeRules, PacketRules, Cuts, CutPacket, counts}
use Rattle.cutting.specs.Filling.{FilledUp}
use Rattle.cutting.specs.Plan.{next_block, filled_from, packets_from, plan}

-- five numbers starting at 65534, and three starting at 0
pub five_three : List Request
five_three = record { ssrc = 7; begin = 65534; count = 5 } ∷ record { ssrc = 8; begin = 0; count = 3 } ∷ []

-- the octets of the packets at limits 32, 44 and 48, and at 47, which is rounded down to 44
pub sizes : map (λ (limit : ℕ). map (λ (p : CutPacket). packet_octets (counts p)) (plan limit five_three)) (32 ∷ 44 ∷ 48 ∷ 47 ∷ [])
    ≡ (32 ∷ 28 ∷ []) ∷ (44 ∷ 24 ∷ []) ∷ (48 ∷ []) ∷ (44 ∷ 24 ∷ []) ∷ []
unfolding five_three next_block filled_from packets_from
sizes = refl

-- rule "No request": the plan of an empty list has no packet
pub no_request_lem : plan 48 [] ≡ []
unfolding packets_from
no_request_lem = refl

-- ---- cuttings that are not filled as ours: all of these requests go into one packet of 56 octets

pub three : List Request
three = record { ssrc = 7; begin = 65535; count = 2 } ∷ record { ssrc = 8; begin = 0; count = 3 } ∷ record { ssrc = 9; begin = 4; count = 0 } ∷ []

block : ℕ → ℕ → ℕ → CutBlock
block i s k = record { request = i; begin = s; count = k }

-- a packet for each request
pub by_request : Cutting
by_request = (block 0 65535 2 ∷ []) ∷ (block 1 0 3 ∷ []) ∷ (block 2 4 0 ∷ []) ∷ []

-- a packet for each number, and one for the empty range
pub by_number : Cutting
by_number =
    (block 0 65535 1 ∷ []) ∷ (block 0 0 1 ∷ []) ∷ (block 1 0 1 ∷ []) ∷ (block 1 1 1 ∷ []) ∷ (block 1 2 1 ∷ []) ∷ (block 2 4 0 ∷ []) ∷ []

-- a range cut in its middle, though the packet has room
pub slack : Cutting
slack = (block 0 65535 2 ∷ block 1 0 1 ∷ []) ∷ (block 1 1 2 ∷ block 2 4 0 ∷ []) ∷ []

-- a range with numbers in it, one with none, and a packet of one block
some : (a : CutBlock) (bs : List CutBlock) → 0 < a.count → numbers_reported bs ≡ numbers_from a.begin a.count
    → All (λ b. 0 < b.count) bs → RangeRules a bs
some a bs h e f = record { range = e; empty = λ z. absurd (omega arith); filled = λ _. f }

none : (a : CutBlock) → a.count ≡ 0 → RangeRules a (a ∷ [])
none a z = record { range = append-nil _; empty = λ _. refl; filled = λ h. absurd (omega arith) }

alone : (b : CutBlock) → b.count ≤ 12 → PacketRules 56 three (b ∷ [])
alone b h = record { some = omega arith; once = (tt, tt); fits = omega arith }

pub others_cut : All (Cuts 56 three) (by_request ∷ by_number ∷ slack ∷ [])
unfolding three block by_request by_number slack
others_cut = (
  record {
    known = omega arith;
    ordered = omega arith;
    ranges = (some _ _ (omega arith) refl (omega arith), (some _ _ (omega arith) refl (omega arith), (none _ refl, tt)));
    packets = (alone _ (omega arith), (alone _ (omega arith), (alone _ (omega arith), tt)));
  },
  (
    record {
      known = omega arith;
      ordered = omega arith;
      ranges = (some _ _ (omega arith) refl (omega arith), (some _ _ (omega arith) refl (omega arith), (none _ refl, tt)));
      packets = (
        alone _ (omega arith),
        (alone _ (omega arith), (alone _ (omega arith), (alone _ (omega arith), (alone _ (omega arith), (alone _ (omega arith), tt))))),
      );
    },
    (
      record {
        known = omega arith;
        ordered = omega arith;
        ranges = (some _ _ (omega arith) refl (omega arith), (some _ _ (omega arith) refl (omega arith), (none _ refl, tt)));
        packets = (
          record { some = omega arith; once = omega arith; fits = omega arith },
          (record { some = omega arith; once = omega arith; fits = omega arith }, tt),
        );
      },
      tt,
    ),
  ),
)

-- they have more packets than our plan
pub others_longer : (length (plan 56 three) ≡ 1) × (map length (by_request ∷ by_number ∷ slack ∷ []) ≡ 3 ∷ 6 ∷ 2 ∷ [])
unfolding three block by_request by_number slack next_block filled_from packets_from
others_longer = (refl, refl)

-- and they are not filled up
pub others_not_filled : All (λ c. FilledUp 56 c → ⊥) (by_request ∷ by_number ∷ slack ∷ [])
unfolding block by_request by_number slack
others_not_filled = (λ f. omega (arith, f.0), (λ f. omega (arith, f.0), (λ f. omega (arith, f.0), tt)))
