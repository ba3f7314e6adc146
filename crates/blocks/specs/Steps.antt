-- The steps of the code: how far the writer has come in the requests, and what its parts write. No statement
-- for a caller needs these.
use Rattle.std.specs.Prelude.{◌≡◌, List, [], ◌∷◌, map, ℕ, ◌+◌, ◌-◌, ◌*◌, ◌≤◌, ◌<◌, length, drop, get_or}
use Rattle.std.proofs.lemmas.List.Edits.{sets}
use Rattle.ring.specs.Ring.{cells_of_a_place}
use Rattle.cell_metrics.specs.Metrics.{cell_metric}
use Rattle.packet.specs.Packet.{Packet, encode_blocks, encode_packet}
use Rattle.packet.specs.Sizes.{blocks_octets, packet_frame, packet_octets, packet_header_octets}
use Rattle.cutting.specs.Cutting.{CutBlock, whole_blocks, counts}
use Rattle.cutting.specs.Limits.{least_limit, most_limit, most_requests}
use Rattle.cutting.specs.Plan.{later_numbers, Filled, filled_from, plan}
use Rattle.cutting.specs.declared.Request.{Request}
use Rattle.blocks.specs.declared.Position.{Position}
use Rattle.blocks.specs.declared.Progress.{Progress}
use Rattle.blocks.specs.declared.Report.{Report}
use Rattle.blocks.specs.Packets.{report_block, report_packet}

abbrev pub progress_at : ℕ → ℕ → ℕ → Progress
progress_at i j at = record { rest = record { request = i; reported = j }; octets = at }

-- without the first j numbers of the first range
abbrev pub skip_numbers : ℕ → List CutBlock → List CutBlock
skip_numbers j [] = []
skip_numbers j (b ∷ w) = later_numbers b j ∷ w

-- what is left to report: the request of the position without its numbers that were reported, and all later
-- ones
abbrev pub remaining : List Request → Position → List CutBlock
remaining rs p = skip_numbers p.reported (whole_blocks p.request (drop p.request rs))

-- no more numbers were reported than the range has
abbrev pub InFirst : ℕ → List CutBlock → Type 0
InFirst j [] = Unit {0}
InFirst j (b ∷ w) = j ≤ b.count

abbrev pub InRange : List Request → Position → Type 0
InRange rs p = InFirst p.reported (whole_blocks p.request (drop p.request rs))

-- the packet that starts at a position, and what it leaves
abbrev pub next_packet : ℕ → List Request → Position → Filled
next_packet limit rs p = filled_from (limit - packet_frame) (remaining rs p)

-- the metric of a number of the request i, whose stream is at a place that was found
abbrev pub metric_found : List ℕ → ℕ → List ℕ → ℕ → ℕ → ℕ
metric_found cells rts found i number = cell_metric cells rts (get_or found i 0) number

-- what writing a report needs: a sound limit, at most 16 requests, and a place with its cells for each
pub record Prepared (report : Report) : Type 0 where
  pub least : least_limit ≤ report.limit
  pub most : report.limit ≤ most_limit
  pub few : length report.requests.now ≤ most_requests
  pub found_all : length report.requests.now ≤ length report.found.now
  pub held : (i : ℕ) → i < length report.requests.now
      → cells_of_a_place * get_or report.found.now i 0 + cells_of_a_place ≤ length report.cells.now

-- the metrics of a report, and its packet that starts at a position
abbrev pub metric_in : Report → ℕ → ℕ → ℕ
metric_in report = metric_found report.cells.now report.rts report.found.now

abbrev pub packet_from : Report → Position → Filled
packet_from report p = next_packet report.limit report.requests.now p

-- all its packets
abbrev pub packets_in : Report → List Packet
packets_in report =
    map (report_packet (metric_in report) report.requests.now report.sender report.rts) (plan report.limit report.requests.now)

-- the blocks of the packet f were written, the first one at octet 8
pub record PutBlocks (metric : ℕ → ℕ → ℕ) (rs : List Request) (f : Filled) (entry exit : List ℕ) (r : Progress) : Type 0 where
  pub content : exit ≡ sets entry packet_header_octets (encode_blocks (map (report_block metric rs) f.packet))
  pub rest : remaining rs r.rest ≡ f.rest
  pub octets : r.octets ≡ packet_header_octets + blocks_octets (counts f.packet)
  pub range : InRange rs r.rest

-- the packet f was written
pub record PutPacket (metric : ℕ → ℕ → ℕ) (rs : List Request) (sender rts : ℕ) (f : Filled) (entry exit : List ℕ) (r : Progress)
    : Type 0 where
  pub content : exit ≡ sets entry 0 (encode_packet (report_packet metric rs sender rts f.packet))
  pub rest : remaining rs r.rest ≡ f.rest
  pub octets : r.octets ≡ packet_octets (counts f.packet)
  pub range : InRange rs r.rest
