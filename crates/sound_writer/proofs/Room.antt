-- The packets that are put, and the cases of `put_packets`, by the test that the code makes. Assumes nothing.
use mathlib.Core.Path.{◌≡◌, refl, sym, ap, ap₂}
use mathlib.Core.List.{List, [], ◌∷◌, map}
use Prim.Native.Nat.{ℕ, ◌≤◌, ◌<◌}
use native.Mathlib.Omega.{arith}
use lib.ListN.{length}
use lib.Seq.{sets}
use borrow.Author.Tests.{lt-ltb, le-ltb}
use Rattle.lists.specs.All.{All}
use Rattle.std.specs.Prelude.{Option, Ok}
use Rattle.lists.proofs.All.{all_left, all_right}
use Rattle.octets.specs.Output.{output_after}
use Rattle.cutting.specs.Cutting.{CutPacket, Cutting, all_blocks, numbers_from, stream_of}
use Rattle.cutting.specs.Limits.{least_limit}
use Rattle.cutting.specs.Plan.{plan, total_octets}
use Rattle.plan_size.specs.Measure.{Measures}
use Rattle.cutting.specs.declared.Request.{Request}
use Rattle.plan_size.specs.declared.Total.{Total}
use Rattle.cutting.proofs.ToRules.{plan_known}
use Rattle.requests.specs.Steps.{FoundAll}
use Rattle.blocks.specs.Packets.{store_metric_at, store_metric, report_block, report_packet, encode_packets, packets_for}
use Rattle.blocks.specs.Steps.{metric_found}
use Rattle.sound_writer.specs.Put.{writing_refused, put_packets}
use Rattle.refusal.specs.declared.Refusal.TheVariants.{OutputTooShort}
use Rattle.packet.specs.Packet as packet

-- ---- the metrics at the places that were found are those of the streams

module _ (rs : List Request) (m₁ m₂ : ℕ → ℕ → ℕ) (same : (i : ℕ) → i < length rs → m₁ i ≡ m₂ i) where
  same_blocks : (p : CutPacket) → All (λ b. b.request < length rs) p → map (report_block m₁ rs) p ≡ map (report_block m₂ rs) p
  same_blocks [] h = refl
  same_blocks (b ∷ p) h =
      ap₂ (λ (f : ℕ → ℕ) (l : List packet.Block).
      record { ssrc = stream_of rs b.request; begin = b.begin; metrics = map f (numbers_from b.begin b.count) } ∷ l)
      (same b.request h.0) (same_blocks p h.1)

  same_packets : (sender rts : ℕ) (c : Cutting) → All (λ b. b.request < length rs) (all_blocks c)
      → map (report_packet m₁ rs sender rts) c ≡ map (report_packet m₂ rs sender rts) c
  same_packets sender rts [] h = refl
  same_packets sender rts (p ∷ c) h =
      ap₂ (λ (bs : List packet.Block) (ps : List packet.Packet). record { sender = sender; rts = rts; blocks = bs } ∷ ps)
      (same_blocks p (all_left _ p (all_blocks c) h)) (same_packets sender rts c (all_right _ p (all_blocks c) h))

pub found_packets : (places cells found : List ℕ) (sender rts limit : ℕ) (rs : List Request) → least_limit ≤ limit
    → FoundAll places rs found
    → map (report_packet (metric_found cells rts found) rs sender rts) (plan limit rs) ≡ packets_for places cells sender rts limit rs
found_packets places cells found sender rts limit rs l f =
    let metric : Option ℕ → ℕ → ℕ = λ x s. store_metric_at x cells rts s in
    same_packets rs (metric_found cells rts found) (λ i. store_metric places cells rts (stream_of rs i))
    (λ i h. ap metric (sym (f i h))) sender rts (plan limit rs) (plan_known limit rs l)

-- ---- room for the packets

module _ (c : Cutting) (ps : List packet.Packet) (out : List ℕ) (r : Total) (m : Measures c r) where
  pub put_short : length out < r.octets → writing_refused OutputTooShort out ≡ put_packets c ps out
  unfolding put_packets
  put_short h = rw (lt-ltb (length out) (total_octets c) (omega (arith, m.octets)))

  pub put_whole : (qs : List packet.Packet) (exit : List ℕ) → r.octets ≤ length out → qs ≡ ps → exit ≡ sets out 0 (encode_packets qs)
      → output_after (Ok (record { packets = r.packets; octets = r.octets })) exit ≡ put_packets c ps out
  unfolding put_packets
  put_whole qs exit h f e = rw (le-ltb (length out) (total_octets c) (omega (arith, m.octets)), m.packets, m.octets, e, f)
