-- The octets of a packet whose fields fit are octets. Assumes nothing.
use Prim.Native.Nat.{ℕ, ◌-◌, ◌/◌, ◌%◌, ◌^◌, ◌<◌}
use mathlib.Core.List.{List, [], ◌∷◌, ◌++◌}
use native.Mathlib.Omega.{arith}
use borrow.Author.Tests.{eq-eqb, ne_eqb}
use lib.ListN.{length}
use Rattle.lists.specs.All.{All}
use Rattle.lists.proofs.Cases.{split_eq}
use Rattle.octets.specs.Octets.{octets16, octets32, Octets}
use Rattle.packet.specs.Packet.{Block, Packet, report_counts, FitBlock, Fit, encode_metrics, filler, block_header, encode_block, encode_blocks, packet_header, encode_packet}
use Rattle.packet.specs.Sizes.{packet_octets}

join : (l m : List ℕ) → Octets l → Octets m → Octets (l ++ m)
join [] m a b = b
join (x ∷ l) m a b = (a.0, join l m a.1 b)

octets_16 : (n : ℕ) → n < 2 ^ 16 → Octets (octets16 n)
octets_16 n h = (omega arith, (omega arith, tt))

octets_32 : (n : ℕ) → n < 2 ^ 32 → Octets (octets32 n)
octets_32 n h = join (octets16 (n / 65536)) (octets16 (n % 65536)) (octets_16 (n / 65536) (omega arith)) (octets_16 (n % 65536) (omega arith))

octets_metrics : (ms : List ℕ) → All (λ m. m < 2 ^ 16) ms → Octets (encode_metrics ms)
unfolding encode_metrics
octets_metrics [] h = tt
octets_metrics (m ∷ ms) h = join (octets16 m) (encode_metrics ms) (octets_16 m h.0) (octets_metrics ms h.1)

octets_filler : (n : ℕ) → Octets (filler n)
unfolding filler
octets_filler n = split_eq (n % 2) 0 (λ h. simp (eq-eqb (n % 2) 0 h) tt) (λ h. simp (ne_eqb (n % 2) 0 h) (octets_16 0 (omega arith)))

octets_block : (b : Block) → FitBlock b → Octets (encode_block b)
unfolding encode_block
octets_block b h =
    let n = length b.metrics in
    join (block_header b.ssrc b.begin n) (encode_metrics b.metrics ++ filler n)
    (join (octets32 b.ssrc) (octets16 b.begin ++ octets16 n) (octets_32 b.ssrc h.ssrc)
    (join (octets16 b.begin) (octets16 n) (octets_16 b.begin h.begin) (octets_16 n (omega (arith, h.few)))))
    (join (encode_metrics b.metrics) (filler n) (octets_metrics b.metrics h.metrics) (octets_filler n))

octets_blocks : (bs : List Block) → All FitBlock bs → Octets (encode_blocks bs)
unfolding encode_blocks
octets_blocks [] h = tt
octets_blocks (b ∷ bs) h = join (encode_block b) (encode_blocks bs) (octets_block b h.0) (octets_blocks bs h.1)

pub in_octets : (p : Packet) → Fit p → Octets (encode_packet p)
unfolding encode_packet
in_octets p h =
    let w = packet_octets (report_counts p.blocks) / 4 - 1 in
    join (packet_header (packet_octets (report_counts p.blocks)) p.sender) (encode_blocks p.blocks ++ octets32 p.rts)
    (omega arith, (omega arith, join (octets16 w) (octets32 p.sender) (octets_16 w (omega (arith, h.words))) (octets_32 p.sender h.sender)))
    (join (encode_blocks p.blocks) (octets32 p.rts) (octets_blocks p.blocks h.blocks) (octets_32 p.rts h.rts))
