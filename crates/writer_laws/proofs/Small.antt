-- What stands in the plan's packets fits its fields. Assumes nothing.
use mathlib.Core.List.{List, [], ◌∷◌, map}
use Prim.Native.Nat.{ℕ, zero, suc, ◌-◌, ◌^◌, ◌≤◌, ◌<◌}
use native.Mathlib.Omega.{arith}
use Rattle.lists.specs.All.{All}
use Rattle.std.specs.Prelude.{Option, Some, None}
use Rattle.metric.specs.declared.Arrived.{Arrived}
use Rattle.lists.proofs.Cases.{split_le}
use Rattle.metric.specs.Metric.{age_of, longest_age, after_rts, ato_of_age, ato_of, assembled_of, mark_unit, encode_of}
use Rattle.metric.proofs.Table.{after_row, over_row, else_row}
use Rattle.window.specs.Number.{sequence_numbers}
use Rattle.ring.specs.Ring.{cells_of_a_place}
use Rattle.places.specs.Place.{find_of}
use Rattle.place_window.specs.Window.{cell_at}
use Rattle.cells.specs.Cell.{read_cell}
use Rattle.cell_metrics.specs.Metrics.{cell_metric}
use Rattle.packet.specs.Sizes.{block_octets, packet_octets}
use Rattle.cutting.specs.Cutting.{CutBlock, CutPacket, following, numbers_from, whole_blocks, stream_of, counts}
use Rattle.cutting.specs.Limits.{least_limit, most_limit}
use Rattle.cutting.specs.Plan.{fitting, number_after, filled_from, packets_from, most_packets, plan}
use Rattle.cutting.specs.declared.Request.{Request}
use Rattle.cutting.proofs.Plan.{filled_none, filled_cases}
use Rattle.blocks.specs.Packets.{store_metric_at, store_metric, report_block, report_packet}
use Rattle.report_block.proofs.Metrics.{length_of_lem}
use Rattle.packets.proofs.Packets.{blocks_octets_lem, packet_fits}
use Rattle.packet.specs.Packet as packet

-- ---- metrics

ato_small : (age : ℕ) → ato_of_age age < mark_unit
ato_small age =
    split_le after_rts age
    (λ h. rw (after_row age h) (omega arith))
    (λ h. split_le age longest_age (λ l. rw (else_row age l) (omega arith)) (λ l. rw (over_row age l h) (omega arith)))

encode_small : (cell : Option Arrived) (rts : ℕ) → encode_of cell rts < 2 ^ 16
encode_small None rts = omega arith
encode_small (Some a) rts = at_time a.time
  where
    at_time : (time : Option ℕ) → assembled_of a.mark (ato_of time rts) < 2 ^ 16
    at_time None = omega arith
    at_time (Some t) = omega (arith, ato_small (age_of rts t))

metric_by : (f : Option ℕ) (cells : List ℕ) (rts number : ℕ) → store_metric_at f cells rts number < 2 ^ 16
unfolding cell_metric
metric_by (Some p) cells rts number = encode_small (read_cell (cell_at cells p number)) rts
metric_by None cells rts number = omega arith

metrics_small : (f : Option ℕ) (cells : List ℕ) (rts : ℕ) (ns : List ℕ) → All (λ m. m < 2 ^ 16) (map (store_metric_at f cells rts) ns)
metrics_small f cells rts [] = tt
metrics_small f cells rts (s ∷ ns) = (metric_by f cells rts s, metrics_small f cells rts ns)

-- ---- blocks

abbrev pub Small : CutBlock → Type 0
Small b = (b.begin < sequence_numbers) × (b.count ≤ cells_of_a_place)

after_small : (s j : ℕ) → s < sequence_numbers → number_after s j < sequence_numbers
after_small s zero h = h
after_small s (suc j) h = after_small (following s) j (omega arith)

pub whole_small : (i : ℕ) (rs : List Request) → All (λ r. (r.begin < sequence_numbers) × (r.count ≤ cells_of_a_place)) rs
    → All Small (whole_blocks i rs)
whole_small i [] h = tt
whole_small i (r ∷ rs) h = (h.0, whole_small (suc i) rs h.1)

filled_small : (room : ℕ) (w : List CutBlock) → All Small w → All Small (filled_from room w).packet × All Small (filled_from room w).rest
filled_small room [] h = rw (filled_none room) (tt, tt)
filled_small room (b ∷ w) h =
    filled_cases (λ f. All Small f.packet × All Small f.rest) room b w
    (λ l. let r = filled_small (room - block_octets b.count) w h.1 in ((h.0, r.0), r.1))
    (λ l k. (((h.0.0, omega (arith, h.0.1)), tt), ((after_small b.begin (fitting room) h.0.0, omega (arith, h.0.1)), h.1)))
    (λ l k. (tt, h))

-- a packet's blocks are small, and it is not over the limit
pub record Fits (limit : ℕ) (p : CutPacket) : Type 0 where
  pub blocks : All Small p
  pub octets : packet_octets (counts p) ≤ limit

packets_small : (most limit : ℕ) (w : List CutBlock) → 12 ≤ limit → All Small w → All (Fits limit) (packets_from most limit w)
unfolding packets_from
packets_small zero limit w l h = tt
packets_small (suc most) limit [] l h = tt
packets_small (suc most) limit (b ∷ w) l h =
    let r = filled_small (limit - 12) (b ∷ w) h in
    (record { blocks = r.0; octets = packet_fits limit (b ∷ w) l }, packets_small most limit (filled_from (limit - 12) (b ∷ w)).rest l r.1)

pub plan_small : (limit : ℕ) (rs : List Request) → least_limit ≤ limit
    → All (λ r. (r.begin < sequence_numbers) × (r.count ≤ cells_of_a_place)) rs → All (Fits limit) (plan limit rs)
plan_small limit rs l h = packets_small (most_packets (whole_blocks 0 rs)) limit (whole_blocks 0 rs) (omega arith) (whole_small 0 rs h)

-- ---- packets that are written

stream_small : (rs : List Request) (i : ℕ) → All (λ r. r.ssrc < 2 ^ 32) rs → stream_of rs i < 2 ^ 32
stream_small [] i h = omega arith
stream_small (r ∷ rs) zero h = h.0
stream_small (r ∷ rs) (suc i) h = stream_small rs i h.1

module _ (places cells : List ℕ) (sender rts : ℕ) (rs : List Request) (x : All (λ r. r.ssrc < 2 ^ 32) rs) where
  abbrev pub metric_asked : ℕ → ℕ → ℕ
  metric_asked i = store_metric places cells rts (stream_of rs i)

  blocks_fit : (p : CutPacket) → All Small p → All packet.FitBlock (map (report_block metric_asked rs) p)
  blocks_fit [] h = tt
  blocks_fit (b ∷ p) h = (
    record {
      ssrc = stream_small rs b.request x;
      begin = omega (arith, h.0.0);
      few = omega (arith, length_of_lem (metric_asked b.request) b.begin b.count, h.0.1);
      metrics = metrics_small (find_of places (stream_of rs b.request)) cells rts (numbers_from b.begin b.count);
    },
    blocks_fit p h.1,
  )

  pub report_fits : (limit : ℕ) (p : CutPacket) → sender < 2 ^ 32 → rts < 2 ^ 32 → limit ≤ most_limit
      → Fits limit p → packet.Fit (report_packet metric_asked rs sender rts p)
  report_fits limit p s t l f = record {
    sender = s;
    rts = t;
    blocks = blocks_fit p f.blocks;
    words = omega (arith, blocks_octets_lem metric_asked rs p, f.octets);
  }
