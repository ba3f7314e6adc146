-- Rules: "Cuttings", "How packets are filled", "Writer". What a reader finds in the writer's
-- output. Nothing here is the writer's: a walk over length fields, and the reader's own walk over
-- blocks.
use Rattle.std.specs.Prelude.{ℕ, zero, suc, ◌+◌, ◌*◌, ◌%◌, ◌^◌, ◌≤◌, ◌<◌, ◌≡◌, cond, List, [], ◌∷◌, map, length, take, drop, eqb}
use Rattle.lists.specs.All.{All}
use Rattle.std.specs.Prelude.{Option, Some, None, Ok}
use Rattle.octets.specs.Octets.{be16}
use Rattle.metric.specs.Metric.{seen_of}
use Rattle.metric.specs.declared.Metric.{Metric}
use Rattle.window.specs.Number.{sequence_numbers}
use Rattle.places.specs.Place.{find_of}
use Rattle.place_window.specs.Window.{cell_at}
use Rattle.cells.specs.Cell.{read_cell}
use Rattle.walk.specs.Walk.{Walked, walked, stopped, walk_of}
use Rattle.walk.specs.declared.ReportBlock.{ReportBlock}
use Rattle.reader.specs.Reading.{Decoded, decode_packet, read_of}
use Rattle.block_reader.specs.Blocks.{located}
use Rattle.metric_reader.specs.Metrics.{reported_of}
use Rattle.cutting.specs.Cutting.{CutBlock, CutPacket, Cutting, Cuts, rounded_down}
use Rattle.cutting.specs.Filling.{FilledUp}
use Rattle.cutting.specs.declared.Request.{Request}
use Rattle.blocks.specs.Packets.{packets_for}
use Rattle.metric.specs.declared.Metric.TheVariants.{NotReceived}

-- ---- the packets that walking the length fields finds

-- the octets of the first packet, by its length field, which is one less than its 32-bit words
abbrev pub first_octets : List ℕ → ℕ
first_octets s = 4 * (be16 s 2 + 1)

-- packet after packet, at most `most`
unfoldable pub walk_lengths : ℕ → List ℕ → List (List ℕ)
walk_lengths zero s = []
walk_lengths (suc most) [] = []
walk_lengths (suc most) (x ∷ s) =
    take (first_octets (x ∷ s)) (x ∷ s) ∷ walk_lengths most (drop (first_octets (x ∷ s)) (x ∷ s))

-- there are no more packets than octets
abbrev pub packets_in : List ℕ → List (List ℕ)
packets_in s = walk_lengths (length s) s

-- ---- the blocks of each packet as those of a cutting, by the SSRC, the begin and the num_reports of each

-- the place of the first request on a stream
unfoldable pub request_of : List Request → ℕ → ℕ
request_of [] ssrc = 0
request_of (r ∷ rs) ssrc = let k : ℕ = suc (request_of rs ssrc) in cond (eqb r.ssrc ssrc) 0 k

abbrev pub block_read : List Request → ReportBlock → CutBlock
block_read rs b = record { request = request_of rs b.ssrc; begin = b.begin_seq; count = b.num_reports }

-- the blocks of a packet, by the reader's walk
abbrev pub blocks_read : List Request → Walked → CutPacket
blocks_read rs (walked bs) = map (block_read rs) bs
blocks_read rs (stopped e) = []

abbrev pub cutting_read : List Request → List (List ℕ) → Cutting
cutting_read rs ps = map (λ (s : List ℕ). blocks_read rs (walk_of s)) ps

-- ---- each packet as a whole

-- asking the packet s answers this sender and this RTS, and as many blocks as its packet of the cutting has
abbrev pub PacketRead : ℕ → ℕ → List Request → List ℕ → Type 0
PacketRead sender rts rs s = read_of (decode_packet s) ≡ Ok (record { sender = sender; rts = rts; blocks = length (blocks_read rs (walk_of s)) })

-- it has at most `limit` octets, and at most the limit in whole 32-bit words
abbrev pub WithinLimit : ℕ → List ℕ → Type 0
WithinLimit limit s = (length s ≤ limit) × (length s ≤ rounded_down limit)

-- ---- metrics

-- what is seen of a number of a stream at RTS: what its cell says
abbrev pub seen_at : Option ℕ → List ℕ → ℕ → ℕ → Metric
seen_at (Some p) cells rts number = seen_of (read_cell (cell_at cells p number)) rts
seen_at None cells rts number = NotReceived

abbrev pub seen_in : List ℕ → List ℕ → ℕ → ℕ → ℕ → Metric
seen_in places cells rts ssrc number = seen_at (find_of places ssrc) cells rts number

-- asking the packet s for metric j of block k answers the number that the metric is of, and what the store
-- says of it
abbrev pub MetricsRead : List ℕ → List ℕ → ℕ → List ℕ → Type 0
MetricsRead places cells rts s =
    (k j : ℕ) (b : ReportBlock) → located (walk_of s) k ≡ Ok b → j < b.num_reports
    → reported_of (located (walk_of s) k) s j
    ≡ Ok (record {
      number = (b.begin_seq + j) % sequence_numbers;
      metric = seen_in places cells rts b.ssrc ((b.begin_seq + j) % sequence_numbers);
    })

-- ---- numbers that the parameters can hold

pub record InBits (sender rts : ℕ) (rs : List Request) : Type 0 where
  pub sender_bits : sender < 2 ^ 32
  pub rts_bits : rts < 2 ^ 32
  pub request_bits : All (λ r. (r.ssrc < 2 ^ 32) × (r.begin < 2 ^ 16)) rs

-- ---- what is proved where the answer is p packets and o octets; the output was `entry` and is `exit`

pub record Report (places cells : List ℕ) (sender rts limit : ℕ) (rs : List Request) (entry exit : List ℕ) (p o : ℕ) : Type 0 where
  -- the output has room
  pub room : o ≤ length entry
  -- the octets behind what is written stay
  pub past : drop o exit ≡ drop o entry
  -- walking the length fields of what is written finds p packets
  pub count : length (packets_in (take o exit)) ≡ p
  -- the reader accepts each, as the plan's packet with the metrics of the store
  pub accepts : map decode_packet (packets_in (take o exit)) ≡ map Decoded.packet (packets_for places cells sender rts limit rs)
  -- the reader answers the given sender and RTS for each
  pub sender_rts : All (PacketRead sender rts rs) (packets_in (take o exit))
  -- none is over the limit
  pub limited : All (WithinLimit limit) (packets_in (take o exit))
  -- their blocks are a cutting of the requests, with just p packets
  pub cuts : Cuts limit rs (cutting_read rs (packets_in (take o exit)))
  pub cut_count : length (cutting_read rs (packets_in (take o exit))) ≡ p
  -- rule "Fewest packets": no cutting has fewer
  pub fewest : (c : Cutting) → Cuts limit rs c → p ≤ length c
  -- rule "Filled up": what a packet begins with did not fit in the packet before
  pub filled_up : FilledUp limit (cutting_read rs (packets_in (take o exit)))
  -- each metric read back is that of its number in the store at RTS
  pub metrics : All (MetricsRead places cells rts) (packets_in (take o exit))
