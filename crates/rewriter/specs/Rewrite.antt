-- Rules: "Rewriter", rule "Tidied". What the rewriter makes of a packet: its metrics with R = 0
-- become 0x0000, and nothing else changes.
use Rattle.std.specs.Prelude.{ℕ, ◌<◌, ◌≡◌, cond, List, map, length, ltb, Result, Ok, Err}
use Rattle.std.proofs.lemmas.List.Edits.{sets}
use Rattle.lists.specs.All.{All}
use Rattle.octets.specs.Output.{OutputAfter, output_after}
use Rattle.metric.specs.Metric.{received_bit}
use Rattle.packet.specs.Packet.{Block, Packet, encode_packet, report_counts}
use Rattle.packet.specs.Sizes.{packet_octets}
use Rattle.reader.specs.Reading.{Decoded, packet, refused}
use Rattle.metric_rewriter.specs.Metrics.{rewrite_metric}
use Rattle.refusal.specs.declared.Refusal.{Refusal}
use Rattle.refusal.specs.declared.Refusal.TheVariants.{OutputTooShort}

abbrev pub rewrite_block : Block → Block
rewrite_block b = record { ssrc = b.ssrc; begin = b.begin; metrics = map rewrite_metric b.metrics }

abbrev pub rewrite_packet : Packet → Packet
rewrite_packet p = record { sender = p.sender; rts = p.rts; blocks = map rewrite_block p.blocks }

-- rule "When nothing changes": each metric with R = 0 is 0x0000
abbrev pub Clean : Packet → Type 0
Clean p = All (λ b. All (λ m. m < received_bit → m ≡ 0) b.metrics) p.blocks

-- the reader's refusals, then 10; the packet is written to the start of the output, and other octets stay
abbrev pub rewrite_of : Decoded → List ℕ → OutputAfter (Result ℕ Refusal)
rewrite_of (refused e) out = output_after (Err e) out
rewrite_of (packet p) out =
    cond (ltb (length out) (packet_octets (report_counts p.blocks))) (output_after (Err OutputTooShort) out)
    (output_after (Ok (packet_octets (report_counts p.blocks))) (sets out 0 (encode_packet (rewrite_packet p))))
