-- Packets read and written by the definitions: one packet in full, and packets at the edge of each refusal. Assumes
-- nothing.
use Prim.Native.Nat.{ℕ}
use mathlib.Core.Path.{◌≡◌, refl}
use mathlib.Core.List.{List, [], ◌∷◌, map}
use Rattle.refusal.specs.Numbers.{number_of}
use Rattle.octets.specs.Octets.{be16, be32}
use Rattle.octets.specs.Output.{output_after}
use Rattle.metric.specs.Metric.{decode_of}
use Rattle.packet.specs.Packet.{Packet, encode_metrics, filler, encode_block, encode_blocks, encode_packet}
use Rattle.packet_header.specs.Header.{start_of}
use Rattle.walk.specs.Walk.{filler_at, step_at, walk, walk_of}
use Rattle.reader.specs.Reading.{packet, refused, metrics_at_of, decode_packet}
use Rattle.block_reader.specs.Blocks.{read_block}
use Rattle.metric_reader.specs.Metrics.{read_metric}
use Rattle.rewriter.specs.Rewrite.{rewrite_of}
use Rattle.refusal.specs.declared.Refusal.TheVariants.{OutputTooShort, PacketTooShort, BadVersion, BadType, BadLength, Padded, RunsIntoRts, TooManyReports, FillerNotZero, NoBlock, NoNumber}
use Rattle.metric.specs.declared.Metric.TheVariants.{NotReceived, Received}
use Rattle.std.specs.Prelude.{Ok, Err}

-- a packet of one block, whose numbers go past 65535
pub case_p : Packet
case_p = record { sender = 0xf1; rts = 0x50000; blocks = record { ssrc = 0xa01; begin = 0xfffd; metrics = 0 ∷ 0xc200 ∷ 0 ∷ 0xe000 ∷ [] } ∷ [] }

pub octets_p : List ℕ
octets_p =
    0x8b ∷ 0xcd ∷ 0 ∷ 6 ∷ 0 ∷ 0 ∷ 0 ∷ 0xf1 ∷ 0 ∷ 0 ∷ 0x0a ∷ 0x01 ∷ 0xff ∷ 0xfd ∷ 0 ∷ 4 ∷ 0 ∷ 0 ∷ 0xc2 ∷ 0 ∷ 0 ∷ 0 ∷ 0xe0 ∷ 0 ∷ 0 ∷ 5 ∷ 0 ∷ 0 ∷ []

pub written_p : encode_packet case_p ≡ octets_p
unfolding case_p octets_p encode_packet encode_blocks encode_block encode_metrics filler
written_p = refl

pub read_p : decode_packet octets_p ≡ packet case_p
unfolding case_p octets_p decode_packet walk_of start_of walk step_at filler_at be16 be32 metrics_at_of
read_p = refl

-- its metrics, numbers 65533 to 0, then no such number, and no such block
pub metrics_p : map (read_metric octets_p 0) (0 ∷ 1 ∷ 2 ∷ 3 ∷ 4 ∷ [])
    ≡ Ok (record { number = 65533; metric = NotReceived }) ∷ Ok (record { number = 65534; metric = Received 2 512 }) ∷ Ok (record { number = 65535; metric = NotReceived }) ∷ Ok (record { number = 0; metric = Received 3 0 }) ∷ Err NoNumber ∷ []
unfolding octets_p walk_of start_of walk step_at filler_at be16 be32 metrics_at_of decode_of
metrics_p = refl

pub no_block_p : read_block octets_p 1 ≡ Err NoBlock
unfolding octets_p walk_of start_of walk step_at filler_at be16 be32
no_block_p = refl

pub no_room_p : rewrite_of (decode_packet octets_p) [] ≡ output_after (Err OutputTooShort) []
unfolding octets_p decode_packet walk_of start_of walk step_at filler_at be16 be32 metrics_at_of
no_room_p = refl

-- octets 0 to 7 with sender 1, and RTS 9
pub small : ℕ → ℕ → ℕ → List ℕ → List ℕ
small first type words rest = first ∷ type ∷ 0 ∷ words ∷ 0 ∷ 0 ∷ 0 ∷ 1 ∷ rest

pub rts : List ℕ
rts = 0 ∷ 0 ∷ 0 ∷ 9 ∷ []

-- twelve octets with length 2 are accepted, with no block; then refusals 21 to 28: of two faults the earlier counts
pub edges : map decode_packet (
    small 0x8b 0xcd 2 rts
    ∷ small 0x4b 0xcd 2 (0 ∷ 0 ∷ 0 ∷ [])
    ∷ small 0x4b 0xcc 2 rts
    ∷ small 0x8b 0xcc 3 rts
    ∷ small 0x8c 0xcd 3 rts
    ∷ small 0xab 0xcd 3 rts
    ∷ small 0xab 0xcd 3 (1 ∷ 2 ∷ 3 ∷ 4 ∷ rts)
    ∷ small 0x8b 0xcd 3 (1 ∷ 2 ∷ 3 ∷ 4 ∷ rts)
    ∷ small 0x8b 0xcd 4 (1 ∷ 2 ∷ 3 ∷ 4 ∷ 0 ∷ 0 ∷ 0x40 ∷ 1 ∷ rts)
    ∷ small 0x8b 0xcd 4 (1 ∷ 2 ∷ 3 ∷ 4 ∷ 0 ∷ 0 ∷ 0x40 ∷ 0 ∷ rts)
    ∷ small 0x8b 0xcd 5 (1 ∷ 2 ∷ 3 ∷ 4 ∷ 0 ∷ 0 ∷ 0 ∷ 1 ∷ 0x80 ∷ 7 ∷ 0 ∷ 1 ∷ rts)
    ∷ [])
    ≡ packet (record { sender = 1; rts = 9; blocks = [] })
    ∷ refused PacketTooShort ∷ refused BadVersion ∷ refused BadType ∷ refused BadType ∷ refused BadLength ∷ refused Padded
    ∷ refused RunsIntoRts ∷ refused TooManyReports ∷ refused RunsIntoRts ∷ refused FillerNotZero ∷ []
unfolding small rts decode_packet walk_of start_of walk step_at filler_at be16 be32 metrics_at_of
edges = refl

-- with these numbers
pub numbers : map number_of
    (PacketTooShort ∷ BadVersion ∷ BadType ∷ BadLength ∷ Padded ∷ RunsIntoRts ∷ TooManyReports ∷ FillerNotZero ∷ NoBlock ∷ NoNumber ∷ OutputTooShort ∷ [])
    ≡ 21 ∷ 22 ∷ 23 ∷ 24 ∷ 25 ∷ 26 ∷ 27 ∷ 28 ∷ 29 ∷ 30 ∷ 10 ∷ []
numbers = refl
