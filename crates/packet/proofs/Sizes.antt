-- How many octets metrics, blocks and packets take. Assumes nothing.
use Prim.Native.Nat.{ℕ, ◌+◌, ◌*◌, ◌/◌, ◌%◌}
use mathlib.Core.Path.{◌≡◌, refl}
use mathlib.Core.List.{List, [], ◌∷◌}
use native.Mathlib.Omega.{arith}
use borrow.Author.Tests.{eq-eqb, ne_eqb}
use lib.ListN.{length, length-append}
use Rattle.lists.proofs.Cases.{split_eq}
use Rattle.octets.specs.Octets.{octets32}
use Rattle.packet.specs.Packet.{Block, Packet, encode_metrics, filler, encode_block, encode_blocks, encode_packet, report_counts}
use Rattle.packet.specs.Sizes.{block_octets, blocks_octets, packet_octets}

twice : (q : ℕ) → block_octets (2 * q) ≡ 8 + 4 * q
twice q = omega arith

twice_one : (q : ℕ) → block_octets (2 * q + 1) ≡ 12 + 4 * q
twice_one q = omega arith

pub even_octets : (n : ℕ) → n % 2 ≡ 0 → block_octets n ≡ 8 + 2 * n
even_octets n h = let z : n ≡ 2 * (n / 2) = omega arith in omega (arith, rw (← z) at (twice (n / 2)))

pub odd_octets : (n : ℕ) → (n % 2 ≡ 0 → ⊥) → block_octets n ≡ 8 + 2 * n + 2
odd_octets n h = let z : n ≡ 2 * (n / 2) + 1 = omega arith in omega (arith, rw (← z) at (twice_one (n / 2)))

pub length_metrics : (ms : List ℕ) → length (encode_metrics ms) ≡ 2 * length ms
unfolding encode_metrics
length_metrics [] = refl
length_metrics (m ∷ ms) = omega (arith, length_metrics ms)

pub length_filler : (n : ℕ) → 8 + 2 * n + length (filler n) ≡ block_octets n
unfolding filler
length_filler n =
    split_eq (n % 2) 0
    (λ h. simp (eq-eqb (n % 2) 0 h) (omega (arith, even_octets n h)))
    (λ h. simp (ne_eqb (n % 2) 0 h) (omega (arith, odd_octets n h)))

pub length_block : (b : Block) → length (encode_block b) ≡ block_octets (length b.metrics)
unfolding encode_block
length_block b =
    let n = length b.metrics in
    omega (arith, length-append (encode_metrics b.metrics) (filler n), length_metrics b.metrics, length_filler n)

pub length_blocks : (bs : List Block) → length (encode_blocks bs) ≡ blocks_octets (report_counts bs)
unfolding encode_blocks
length_blocks [] = refl
length_blocks (b ∷ bs) = omega (arith, length-append (encode_block b) (encode_blocks bs), length_block b, length_blocks bs)

pub length_packet : (p : Packet) → length (encode_packet p) ≡ packet_octets (report_counts p.blocks)
unfolding encode_packet
length_packet p = omega (arith, length-append (encode_blocks p.blocks) (octets32 p.rts), length_blocks p.blocks)
