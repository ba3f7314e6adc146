-- What a reader finds in packets that stand back to back. Assumes nothing.
use mathlib.Core.Path.{◌≡◌, refl, sym, ap, ap₂, ◌∙◌, subst}
use mathlib.Core.List.{List, [], ◌∷◌, ◌++◌, map}
use Prim.Native.Nat.{ℕ, zero, suc, ◌+◌, ◌%◌, ◌^◌, ◌≤◌, ◌<◌}
use native.Mathlib.Omega.{arith}
use lib.ListN.{length, take, drop, get_or, length-append, length-map}
use lib.Seq.{take_at, drop_at}
use borrow.Author.Tests.{eq-eqb, ne_eqb, lt-leb}
use Rattle.lists.specs.All.{All}
use Rattle.metric.specs.declared.Metric.{Metric}
use Rattle.std.specs.Prelude.{Option, Result, Some, None, Ok}
use Rattle.reports.specs.declared.Reported.{Reported}
use Rattle.refusal.specs.declared.Refusal.{Refusal}
use Rattle.lists.proofs.Cases.{never}
use Rattle.lists.proofs.All.{all_left, all_right}
use Rattle.octets.specs.Octets.{be16}
use Rattle.metric.specs.Metric.{decode_of}
use Rattle.metric.proofs.Decoded.{reads_not_received}
use Rattle.metric.proofs.ReadBack.{decode_encode}
use Rattle.places.specs.Place.{find_of}
use Rattle.place_window.specs.Window.{cell_at}
use Rattle.cells.specs.Cell.{read_cell}
use Rattle.cell_metrics.specs.Metrics.{cell_metric}
use Rattle.packet.specs.Sizes.{block_octets, blocks_octets}
use Rattle.packet.proofs.Sizes.{length_packet}
use Rattle.walk.specs.Walk.{Walked}
use Rattle.walk.specs.declared.ReportBlock.{ReportBlock}
use Rattle.reader.specs.Reading.{Decoded, decode_packet, read_of}
use Rattle.block_reader.specs.Blocks.{nth, located}
use Rattle.packet_laws.specs.Asked.{laid_block, laid, block_metric, packet_metric}
use Rattle.packet_laws.proofs.Asked.{metric_asked_lem}
use Rattle.packet_laws.proofs.ReadBack.{read_back, walk_back}
use Rattle.cutting.specs.Cutting.{CutBlock, CutPacket, Cutting, all_blocks, following, numbers_from, stream_of, DifferentStreams}
use Rattle.cutting.specs.Plan.{number_after}
use Rattle.cutting.specs.declared.Request.{Request}
use Rattle.cutting.proofs.Plan.{after_sum}
use Rattle.cutting.proofs.ToRules.{elsewhere}
use Rattle.blocks.specs.Packets.{store_metric_at, report_block, report_packet, encode_packets}
use Rattle.report_block.proofs.Metrics.{length_of_lem}
use Rattle.writer_laws.specs.Read.{first_octets, walk_lengths, packets_in, request_of, block_read, blocks_read, cutting_read, PacketRead, seen_at, MetricsRead}
use Rattle.writer_laws.proofs.Small.{Small, metric_asked}
use Rattle.packet.specs.Packet as packet

-- ---- the walk over length fields

words : (bs : List packet.Block) → blocks_octets (packet.report_counts bs) % 4 ≡ 0
words [] = refl
words (b ∷ bs) = omega (arith, words bs)

first_size : (p : packet.Packet) (t : List ℕ) → first_octets (packet.encode_packet p ++ t) ≡ length (packet.encode_packet p)
unfolding packet.encode_packet be16
first_size p t = rw (length_packet p) (omega (arith, words p.blocks))

walk_more : (s : List ℕ) (most : ℕ) → 0 < length s → walk_lengths (suc most) s ≡ take (first_octets s) s ∷ walk_lengths most (drop (first_octets s) s)
unfolding walk_lengths
walk_more [] most h = absurd (omega arith)
walk_more (x ∷ s) most h = refl

walk_none : (most : ℕ) → walk_lengths most [] ≡ []
unfolding walk_lengths
walk_none zero = refl
walk_none (suc most) = refl

walk_packets : (ps : List packet.Packet) (most : ℕ) → length ps ≤ most → walk_lengths most (encode_packets ps) ≡ map packet.encode_packet ps
unfolding encode_packets
walk_packets [] most h = walk_none most
walk_packets (p ∷ ps) zero h = absurd (omega arith)
walk_packets (p ∷ ps) (suc most) h =
    let x = packet.encode_packet p in
    let y = encode_packets ps in
    let e = first_size p y in
    let n : 0 < length (x ++ y) = omega (arith, length-append x y, length_packet p) in
    walk_more (x ++ y) most n
    ∙ ap (λ (k : ℕ). take k (x ++ y) ∷ walk_lengths most (drop k (x ++ y))) e
    ∙ ap₂ (λ (u v : List ℕ). u ∷ walk_lengths most v) (take_at x y (length x) refl) (drop_at x y (length x) refl)
    ∙ ap (λ (l : List (List ℕ)). x ∷ l) (walk_packets ps most (omega arith))

few_packets : (ps : List packet.Packet) → length ps ≤ length (encode_packets ps)
unfolding encode_packets
few_packets [] = omega arith
few_packets (p ∷ ps) = omega (arith, length-append (packet.encode_packet p) (encode_packets ps), length_packet p, few_packets ps)

pub packets_in_lem : (ps : List packet.Packet) → packets_in (encode_packets ps) ≡ map packet.encode_packet ps
packets_in_lem ps = walk_packets ps (length (encode_packets ps)) (few_packets ps)

-- each is accepted by the reader
pub all_accepted : (ps : List packet.Packet) → All packet.Fit ps → map decode_packet (map packet.encode_packet ps) ≡ map Decoded.packet ps
all_accepted [] f = refl
all_accepted (p ∷ ps) f = ap₂ (λ (d : Decoded) (ds : List Decoded). d ∷ ds) (read_back p f.0) (all_accepted ps f.1)

-- its answer about each: sender, RTS and number of blocks
length_laid : (at : ℕ) (bs : List packet.Block) → length (laid at bs) ≡ length bs
unfolding laid
length_laid at [] = refl
length_laid at (b ∷ bs) = ap suc (length_laid (at + block_octets (length b.metrics)) bs)

pub packet_read : (rs : List Request) (p : packet.Packet) → packet.Fit p → PacketRead p.sender p.rts rs (packet.encode_packet p)
packet_read rs p f =
    let n = length-map (laid 8 p.blocks) (block_read rs) ∙ length_laid 8 p.blocks in
    let e = ap (λ (w : Walked). length (blocks_read rs w)) (walk_back p f) ∙ n in
    ap read_of (read_back p f) ∙ ap (λ (n : ℕ). Ok (record { sender = p.sender; rts = p.rts; blocks = n })) (sym e)

-- ---- the blocks, as those of requests

request_stream : (rs : List Request) (i : ℕ) → DifferentStreams rs → i < length rs → request_of rs (stream_of rs i) ≡ i
unfolding request_of
request_stream [] i d l = absurd (omega arith)
request_stream (r ∷ rs) zero d l = rw (eq-eqb r.ssrc r.ssrc refl)
request_stream (r ∷ rs) (suc i) d l =
    rw (ne_eqb r.ssrc (stream_of rs i) (elsewhere r rs i d.0 (omega arith)), request_stream rs i d.1 (omega arith))

module _ (metric : ℕ → ℕ → ℕ) (rs : List Request) (d : DifferentStreams rs) where
  blocks_read_lem : (p : CutPacket) (at : ℕ) → All (λ b. b.request < length rs) p → map (block_read rs) (laid at (map (report_block metric rs) p)) ≡ p
  unfolding laid
  blocks_read_lem [] at h = refl
  blocks_read_lem (b ∷ p) at h =
      ap₂ (λ (x : CutBlock) (l : List CutBlock). x ∷ l)
      (ap₂ (λ (i k : ℕ). record { request = i; begin = b.begin; count = k }) (request_stream rs b.request d h.0)
      (length_of_lem (metric b.request) b.begin b.count))
      (blocks_read_lem p _ h.1)

  pub cutting_read_lem : (sender rts : ℕ) (c : Cutting) → All (λ b. b.request < length rs) (all_blocks c)
      → All packet.Fit (map (report_packet metric rs sender rts) c)
      → cutting_read rs (map packet.encode_packet (map (report_packet metric rs sender rts) c)) ≡ c
  cutting_read_lem sender rts [] h f = refl
  cutting_read_lem sender rts (p ∷ c) h f =
      ap₂ (λ (x : CutPacket) (l : Cutting). x ∷ l)
      (ap (blocks_read rs) (walk_back (report_packet metric rs sender rts p) f.0) ∙ blocks_read_lem p 8 (all_left _ p (all_blocks c) h))
      (cutting_read_lem sender rts c (all_right _ p (all_blocks c) h) f.1)

-- ---- the metrics

seen : (f : Option ℕ) (cells : List ℕ) (rts number : ℕ) → decode_of (store_metric_at f cells rts number) ≡ seen_at f cells rts number
unfolding cell_metric
seen (Some p) cells rts number = decode_encode (read_cell (cell_at cells p number)) rts
seen None cells rts number = reads_not_received 0 (omega arith)

-- metric j of k numbers that start at s is that of the number j after s
get_metric : (m : ℕ → ℕ) (s k j : ℕ) → j < k → get_or (map m (numbers_from s k)) j 0 ≡ m (number_after s j)
get_metric m s zero j h = absurd (omega arith)
get_metric m s (suc k) zero h = refl
get_metric m s (suc k) (suc j) h = get_metric m (following s) k j (omega arith)

module _ (places cells : List ℕ) (sender rts : ℕ) (rs : List Request) (x : All (λ r. r.ssrc < 2 ^ 32) rs) where
  abbrev metric : ℕ → ℕ → ℕ
  metric = metric_asked places cells sender rts rs x

  abbrev Answered : ReportBlock → ℕ → Result Reported Refusal → Type 0
  Answered b j a = a ≡ Ok (record { number = (b.begin_seq + j) % 65536; metric = seen_at (find_of places b.ssrc) cells rts ((b.begin_seq + j) % 65536) })

  block_answered : (y : CutBlock) (at j : ℕ) → Small y → j < length (map (metric y.request) (numbers_from y.begin y.count))
      → Answered (laid_block at (report_block metric rs y)) j (block_metric (report_block metric rs y) j)
  block_answered y at j h l =
      let m = metric y.request in
      let n = length_of_lem m y.begin y.count in
      let g = get_metric m y.begin y.count j (omega arith) ∙ ap m (after_sum y.begin j h.0) in
      rw (lt-leb (length (map m (numbers_from y.begin y.count))) j l, g)
      (ap (λ (m : Metric). Ok (record { number = (y.begin + j) % 65536; metric = m })) (seen (find_of places (stream_of rs y.request)) cells rts ((y.begin + j) % 65536)))

  metric_answered : (p : CutPacket) (at k j : ℕ) (b : ReportBlock) → All Small p
      → nth (laid at (map (report_block metric rs) p)) k ≡ Ok b → j < b.num_reports
      → Answered b j (packet_metric (map (report_block metric rs) p) k j)
  unfolding laid
  metric_answered [] at k j b h e l = never (cc)
  metric_answered (y ∷ p) at zero j b h e l =
      let z : laid_block at (report_block metric rs y) ≡ b = cc in
      subst (λ (x : ReportBlock). j < x.num_reports → Answered x j (block_metric (report_block metric rs y) j)) z (block_answered y at j h.0) l
  metric_answered (y ∷ p) at (suc k) j b h e l = metric_answered p _ k j b h.1 e l

  pub metrics_read : (p : CutPacket) → All Small p → packet.Fit (report_packet metric rs sender rts p)
      → MetricsRead places cells rts (packet.encode_packet (report_packet metric rs sender rts p))
  metrics_read p h f k j b e l =
      let q = report_packet metric rs sender rts p in
      let w = walk_back q f in
      metric_asked_lem (packet.encode_packet q) q (read_back q f) k j
      ∙ metric_answered p 8 k j b h (sym (ap (λ (z : Walked). located z k) w) ∙ e) l
