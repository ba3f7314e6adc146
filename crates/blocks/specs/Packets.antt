-- Rules: "Writer". The packets that answer requests: each block of the plan with the metrics of its
-- numbers (rule "Metrics"), and packets back to back (rule "Back to back").
use Rattle.std.specs.Prelude.{ℕ, List, [], ◌∷◌, ◌++◌, map, Option, Some, None}
use Rattle.places.specs.Place.{find_of}
use Rattle.cell_metrics.specs.Metrics.{cell_metric}
use Rattle.cutting.specs.Cutting.{CutBlock, CutPacket, numbers_from, stream_of}
use Rattle.cutting.specs.Plan.{plan}
use Rattle.cutting.specs.declared.Request.{Request}
use Rattle.packet.specs.Packet as packet

-- the metric of a number of a stream, at RTS: that of its cell; 0 where no place holds the stream
abbrev pub store_metric_at : Option ℕ → List ℕ → ℕ → ℕ → ℕ
store_metric_at (Some p) cells rts number = cell_metric cells rts p number
store_metric_at None cells rts number = 0

abbrev pub store_metric : List ℕ → List ℕ → ℕ → ℕ → ℕ → ℕ
store_metric places cells rts ssrc number = store_metric_at (find_of places ssrc) cells rts number

-- over any metric: `metric i s` is that of number s of the request i
module _ (metric : ℕ → ℕ → ℕ) (rs : List Request) where
  abbrev pub report_block : CutBlock → packet.Block
  report_block b =
      record { ssrc = stream_of rs b.request; begin = b.begin; metrics = map (metric b.request) (numbers_from b.begin b.count) }

  abbrev pub report_packet : ℕ → ℕ → CutPacket → packet.Packet
  report_packet sender rts p = record { sender = sender; rts = rts; blocks = map report_block p }

-- the octets of packets back to back
unfoldable pub encode_packets : List packet.Packet → List ℕ
encode_packets [] = []
encode_packets (p ∷ ps) = packet.encode_packet p ++ encode_packets ps

-- the packets that answer requests
abbrev pub packets_for : List ℕ → List ℕ → ℕ → ℕ → ℕ → List Request → List packet.Packet
packets_for places cells sender rts limit rs =
    map (report_packet (λ i. store_metric places cells rts (stream_of rs i)) rs sender rts) (plan limit rs)
