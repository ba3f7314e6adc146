-- Rules: "Requests", "Packet rules", "Cuttings". How requests may be split into packets: what a
-- customer must believe of it. No algorithm stands here.
use Rattle.std.specs.Prelude.{◌≡◌, ℕ, zero, suc, ◌+◌, ◌*◌, ◌/◌, ◌%◌, ◌<◌, ◌≤◌, cond, ◌≢◌, List, [], ◌∷◌, ◌++◌, map, length, ◌==◌}
use Rattle.lists.specs.All.{All}
use Rattle.window.specs.Number.{sequence_numbers}
use Rattle.packet.specs.Sizes.{packet_octets}
use Rattle.cutting.specs.declared.Request.{Request}

-- a block is of a request of the list, and reports `count` numbers starting at `begin`; the request is given
-- by its place in the list, from 0
pub record CutBlock : Type 0 where
  pub request : ℕ
  pub begin : ℕ
  pub count : ℕ

-- the blocks of a packet, in order
abbrev pub CutPacket : Type 0
CutPacket = List CutBlock

-- rule "Cutting": packets, as many as there are
abbrev pub Cutting : Type 0
Cutting = List CutPacket

-- ---- numbers

-- the next number; 0 follows 65535
abbrev pub following : ℕ → ℕ
following s = (s + 1) % sequence_numbers

-- k numbers in rising order, starting at s
abbrev pub numbers_from : ℕ → ℕ → List ℕ
numbers_from s zero = []
numbers_from s (suc k) = s ∷ numbers_from (following s) k

-- the numbers that blocks report, in order
abbrev pub numbers_reported : List CutBlock → List ℕ
numbers_reported [] = []
numbers_reported (b ∷ bs) = numbers_from b.begin b.count ++ numbers_reported bs

-- ---- sizes

-- how many numbers each block of a packet reports
abbrev pub counts : CutPacket → List ℕ
counts p = map (λ (b : CutBlock). b.count) p

-- packets are whole 32-bit words, so the limit is cut to whole words
abbrev pub rounded_down : ℕ → ℕ
rounded_down limit = limit / 4 * 4

-- ---- blocks and requests

-- the blocks of all packets, in order
abbrev pub all_blocks : Cutting → List CutBlock
all_blocks [] = []
all_blocks (p ∷ c) = p ++ all_blocks c

-- those of the request at the place i
abbrev pub blocks_of : ℕ → List CutBlock → List CutBlock
blocks_of i [] = []
blocks_of i (b ∷ bs) = cond (b.request == i) (b ∷ blocks_of i bs) (blocks_of i bs)

-- each request as one block of its whole range; n is the place of the first
abbrev pub whole_blocks : ℕ → List Request → List CutBlock
whole_blocks n [] = []
whole_blocks n (r ∷ rs) = record { request = n; begin = r.begin; count = r.count } ∷ whole_blocks (suc n) rs

-- the stream of the request at the place i
abbrev pub stream_of : List Request → ℕ → ℕ
stream_of [] i = 0
stream_of (r ∷ rs) zero = r.ssrc
stream_of (r ∷ rs) (suc i) = stream_of rs i

-- rule "One request a stream": no two requests have one SSRC
abbrev pub DifferentStreams : List Request → Type 0
DifferentStreams [] = Unit {0}
DifferentStreams (r ∷ rs) = All (λ q. r.ssrc ≢ q.ssrc) rs × DifferentStreams rs

-- ---- the packet rules

-- rule "Order of requests": after a block come only blocks of its request and of later ones
abbrev pub InOrder : List CutBlock → Type 0
InOrder [] = Unit {0}
InOrder (b ∷ bs) = All (λ d. b.request ≤ d.request) bs × InOrder bs

-- rule "No stream twice": a packet has at most one block of a stream
abbrev pub NoStreamTwice : List Request → CutPacket → Type 0
NoStreamTwice rs [] = Unit {0}
NoStreamTwice rs (b ∷ p) = All (λ d. stream_of rs b.request ≢ stream_of rs d.request) p × NoStreamTwice rs p

-- `bs`, all blocks of one request, in order; `a` is the request as one block
pub record RangeRules (a : CutBlock) (bs : List CutBlock) : Type 0 where
  -- rule "Each number once": the numbers of the range from begin on, rising, and no others
  pub range : numbers_reported bs ≡ numbers_from a.begin a.count
  -- rule "Empty blocks": of a request with count 0, just one block with its begin
  pub empty : a.count ≡ 0 → bs ≡ a ∷ []
  -- and every other block reports a number
  pub filled : 0 < a.count → All (λ b. 0 < b.count) bs

-- a packet by itself
pub record PacketRules (limit : ℕ) (rs : List Request) (p : CutPacket) : Type 0 where
  -- rule "No empty packet": it has a block
  pub some : 0 < length p
  -- rule "No stream twice"
  pub once : NoStreamTwice rs p
  -- rule "Within the limit": with its 12 octets and its blocks
  pub fits : packet_octets (counts p) ≤ rounded_down limit

-- c is a cutting of the requests under the packet rules
pub record Cuts (limit : ℕ) (rs : List Request) (c : Cutting) : Type 0 where
  -- each block is of a request of the list
  pub known : All (λ b. b.request < length rs) (all_blocks c)
  -- rule "Order of requests", over all packets
  pub ordered : InOrder (all_blocks c)
  -- each request is reported, and nothing else
  pub ranges : All (λ a. RangeRules a (blocks_of a.request (all_blocks c))) (whole_blocks 0 rs)
  -- each packet meets its rules
  pub packets : All (PacketRules limit rs) c
