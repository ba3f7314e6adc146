-- What is proved of the writer's answer and output, for every input that is not refused and any lent store
-- content. Assumes nothing.
use mathlib.Core.Path.{◌≡◌, sym, ap, ◌∙◌}
use mathlib.Core.List.{List, map}
use Prim.Native.Nat.{ℕ, ◌+◌, ◌^◌, ◌≤◌, ◌<◌}
use native.Mathlib.Omega.{arith}
use lib.ListN.{length, take, drop, length-map}
use lib.Seq.{sets, sets-eq, take_at, drop_at}
use Rattle.lists.specs.All.{All}
use Rattle.lists.proofs.All.{all_map, all_zip, all_over}
use Rattle.octets.specs.Output.{OutputAfter}
use Rattle.reader.specs.Reading.{decode_packet}
use Rattle.cutting.specs.Cutting.{CutPacket}
use Rattle.cutting.specs.Plan.{plan, total_octets}
use Rattle.cutting.specs.declared.Request.{Request}
use Rattle.cutting.proofs.Theorems.{plan_cuts, plan_fewest, plan_filled}
use Rattle.cutting.proofs.ToRules.{rounded}
use Rattle.blocks.specs.Packets.{report_packet, encode_packets, packets_for}
use Rattle.packets.proofs.Packets.{length_report}
use Rattle.writer.specs.Written.{written}
use Rattle.std.specs.Prelude.{Result, Ok}
use Rattle.plan_size.specs.declared.Total.{Total}
use Rattle.refusal.specs.declared.Refusal.{Refusal}
use Rattle.writer_laws.specs.Read.{packets_in, PacketRead, WithinLimit, MetricsRead, InBits, Report}
use Rattle.writer_laws.proofs.Requests.{sound_different, sound_counts}
use Rattle.writer_laws.proofs.Refusals.{length_octets, WritingAccepted, accepted_written, accepted}
use Rattle.writer_laws.proofs.Small.{Fits, metric_asked, plan_small, report_fits}
use Rattle.writer_laws.proofs.Output.{packets_in_lem, all_accepted, packet_read, cutting_read_lem, metrics_read}
use Rattle.packet.specs.Packet as packet

-- ---- what is written stands in front, and the octets behind it stay

front : (vs out : List ℕ) (o : ℕ) → length vs ≡ o → o ≤ length out → take o (sets out 0 vs) ≡ vs
front vs out o e h = rw (sets-eq vs out 0 (omega arith)) (take_at vs (drop (0 + length vs) out) o e)

behind : (vs out : List ℕ) (o : ℕ) → length vs ≡ o → o ≤ length out → drop o (sets out 0 vs) ≡ drop o out
behind vs out o e h =
    let z : 0 + length vs ≡ o = omega arith in
    rw (sets-eq vs out 0 (omega arith), z) (drop_at vs (drop o out) o e)

-- Every input: n requests `rs` of numbers that the parameters can hold, any store content, any output.
module _ (places cells : List ℕ) (sender rts limit n : ℕ) (rs : List Request) (out : List ℕ) where
  abbrev output : List ℕ
  output = (written places cells sender rts limit n rs out).output

  module _ (bits : InBits sender rts rs) (p o : ℕ) (e : (written places cells sender rts limit n rs out).answer ≡ Ok (record { packets = p; octets = o })) where
    is : WritingAccepted places cells sender rts limit n rs out × (p ≡ length (plan limit rs)) × (o ≡ total_octets (plan limit rs))
    is = accepted places cells sender rts limit n rs out p o e

    abbrev packets : List packet.Packet
    packets = packets_for places cells sender rts limit rs

    abbrev streams : All (λ r. r.ssrc < 2 ^ 32) rs
    streams = all_map rs (λ r b. b.0) bits.request_bits

    small : All (Fits limit) (plan limit rs)
    small =
        plan_small limit rs is.0.proper.least
        (all_zip rs (λ r b k. (omega (arith, b.1), k)) bits.request_bits (sound_counts places is.0.requests))

    -- what is written of a packet of the plan
    abbrev answer : CutPacket → packet.Packet
    answer = report_packet (metric_asked places cells sender rts rs streams) rs sender rts

    answer_fits : (q : CutPacket) → Fits limit q → packet.Fit (answer q)
    answer_fits q f = report_fits places cells sender rts rs streams limit q bits.sender_bits bits.rts_bits is.0.proper.most f

    fit : All packet.Fit packets
    fit = all_over packet.Fit answer (plan limit rs) (all_map (plan limit rs) answer_fits small)

    size : length (encode_packets packets) ≡ o
    size = length_octets places cells sender rts limit n rs out ∙ sym is.2

    content : output ≡ sets out 0 (encode_packets packets)
    content = ap (λ (x : OutputAfter (Result Total Refusal)). x.output) (accepted_written places cells sender rts limit n rs out is.0)

    room : o ≤ length out
    room = omega (arith, is.0.room, size)

    -- the reported octets are the packets
    pub reported : take o output ≡ encode_packets packets
    reported = ap (take o) content ∙ front (encode_packets packets) out o size room

    found : packets_in (take o output) ≡ map packet.encode_packet packets
    found = ap packets_in reported ∙ packets_in_lem packets

    -- what holds of the octets of each packet of the plan holds of each packet found
    each : (P : List ℕ → Type 0) → ((q : CutPacket) → Fits limit q → P (packet.encode_packet (answer q))) → All P (packets_in (take o output))
    each P h =
        rw found (all_over P packet.encode_packet packets
        (all_over (λ q. P (packet.encode_packet q)) answer (plan limit rs) (all_map (plan limit rs) h small)))

    within : (q : CutPacket) → Fits limit q → WithinLimit limit (packet.encode_packet (answer q))
    within q f =
        let e = length_report (metric_asked places cells sender rts rs streams) rs sender rts q in
        (omega (arith, e, f.octets), omega (arith, e, (rounded q).0 f.octets))

    pub report : Report places cells sender rts limit rs out output p o
    report =
        let d = sound_different places is.0.requests in
        let k = plan_cuts limit rs d is.0.proper.least in
        let r = cutting_read_lem (metric_asked places cells sender rts rs streams) rs d sender rts (plan limit rs) k.known fit in
        record {
          room = room;
          past = ap (drop o) content ∙ behind (encode_packets packets) out o size room;
          count = ap length found ∙ length-map packets packet.encode_packet ∙ length-map (plan limit rs) _ ∙ sym is.1;
          accepts = ap (map decode_packet) found ∙ all_accepted packets fit;
          sender_rts = each (PacketRead sender rts rs) (λ q f. packet_read rs (answer q) (answer_fits q f));
          limited = each (WithinLimit limit) within;
          cuts = rw (found, r) k;
          cut_count = rw (found, r) (sym is.1);
          fewest = λ c h. omega (arith, is.1, plan_fewest limit rs c h);
          filled_up = rw (found, r) (plan_filled limit rs is.0.proper.least);
          metrics = each (MetricsRead places cells rts) (λ q f. metrics_read places cells sender rts rs streams q f.blocks (answer_fits q f));
        }
