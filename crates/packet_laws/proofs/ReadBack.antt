-- Reading the octets of a packet gives back the packet. Assumes nothing.
use Prim.Native.Nat.{ℕ, ◌+◌, ◌-◌, ◌/◌, ◌%◌}
use mathlib.Core.Path.{◌≡◌, refl, sym, ap, ◌∙◌}
use mathlib.Core.List.{List, [], ◌∷◌, ◌++◌}
use native.Mathlib.Omega.{arith}
use lib.ListN.{length, drop}
use Rattle.octets.specs.Octets.{octets16, octets32}
use Rattle.packet.specs.Packet.{Block, Packet, encode_blocks, encode_packet, Fit, report_counts}
use Rattle.packet.specs.Sizes.{blocks_octets, packet_octets}
use Rattle.walk.specs.Walk.{rts_at, walked, walk_of}
use Rattle.packet_header.specs.Header.{start_of}
use Rattle.packet_header.proofs.Starts.{sound}
use Rattle.reader.specs.Reading.{packet, decode_packet}
use Rattle.reader.proofs.Answers.{start_at}
use Rattle.packet_laws.specs.Asked.{laid}
use Rattle.packet_laws.proofs.Here.{length_here, one_here, here_16, here_32, here_blocks}
use Rattle.std.specs.Prelude.{Ok}

blocks_words : (bs : List Block) → blocks_octets (report_counts bs) % 4 ≡ 0
blocks_words [] = refl
blocks_words (b ∷ bs) = omega (arith, blocks_words bs)

-- the octets of a packet, part by part
in_parts : Packet → List ℕ
in_parts p =
    0x8B ∷ 0xCD ∷ (octets16 (packet_octets (report_counts p.blocks) / 4 - 1) ++ (octets32 p.sender ++ (encode_blocks p.blocks ++ octets32 p.rts)))

in_parts_lem : (p : Packet) → drop 0 (encode_packet p) ≡ in_parts p
unfolding encode_packet in_parts
in_parts_lem p = refl

-- the walk finds the blocks back to back, and the packet is read
read_from : (p : Packet) → Fit p → (s : List ℕ) → drop 0 s ≡ in_parts p → (walk_of s ≡ walked (laid 8 p.blocks)) × (decode_packet s ≡ packet p)
unfolding in_parts decode_packet
read_from p fit s e =
    let bs = p.blocks in
    let e₁ = one_here s 0 0x8B _ e in
    let e₂ = one_here s 1 0xCD _ e₁.1 in
    let e₃ = here_16 s 2 (packet_octets (report_counts p.blocks) / 4 - 1) _ e₂.1 in
    let e₄ = here_32 s 4 p.sender _ e₃.1 in
    let w = here_blocks s 8 bs (octets32 p.rts) refl fit.blocks e₄.1 in
    let e₅ = here_32 s (8 + blocks_octets (report_counts bs)) p.rts [] w.rest in
    let len : length s ≡ packet_octets (report_counts p.blocks) =
    omega (arith, length_here s (8 + blocks_octets (report_counts bs)) _ w.rest) in
    let z : rts_at s ≡ 8 + blocks_octets (report_counts bs) = omega arith in
    let h : Ok (record { at = 8 }) ≡ start_of s =
    sound s (omega arith) (rw e₁.0 refl) e₂.0 (rw e₁.0 refl) (omega (arith, e₃.0, blocks_words bs)) (rw e₁.0 refl) in
    let walks : walk_of s ≡ walked (laid 8 bs) = start_at s _ _ h refl ∙ w.walks in
    (walks, rw (walks, w.are, e₄.0, z, e₅.0))

pub read_back : (p : Packet) → Fit p → decode_packet (encode_packet p) ≡ packet p
read_back p fit = (read_from p fit (encode_packet p) (in_parts_lem p)).1

pub walk_back : (p : Packet) → Fit p → walk_of (encode_packet p) ≡ walked (laid 8 p.blocks)
walk_back p fit = (read_from p fit (encode_packet p) (in_parts_lem p)).0

-- packets whose fields fit are told apart by their octets
pub encode_different : (p q : Packet) → Fit p → Fit q → encode_packet p ≡ encode_packet q → p ≡ q
encode_different p q f g e = let z : packet p ≡ packet q = sym (read_back p f) ∙ ap decode_packet e ∙ read_back q g in cc
