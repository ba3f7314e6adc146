-- The report on four numbers of each stream is one packet at most, and so one line. Assumes nothing.
use Prim.Native.Nat.{ℕ, suc, ◌+◌, ◌-◌, ◌*◌, ◌≤◌}
use mathlib.Core.Path.{◌≡◌, refl, sym, ap, ◌∙◌, subst}
use mathlib.Core.Bool.{Bool, true, false, cond}
use mathlib.Core.List.{List, [], ◌∷◌, append-nil, map}
use native.Mathlib.Omega.{arith}
use borrow.Author.Tests.{le-ltb}
use lib.ListN.{length, take, drop, length-take}
use lib.Seq.{sets, sets-eq, take_at}
use lib.Dec.{ltb}
use Rattle.refusal.specs.declared.Refusal.{Refusal}
use Rattle.octets.specs.Output.{OutputAfter, output_after}
use Rattle.places.specs.Shape.{shaped, most_places}
use Rattle.packet.specs.Sizes.{block_octets, blocks_octets, packet_frame, packet_octets}
use Rattle.cutting.specs.Cutting.{CutPacket, Cutting, whole_blocks, stream_of, counts}
use Rattle.cutting.specs.Plan.{onto, filled_from, plan, total_octets}
use Rattle.cutting.specs.declared.Request.{Request}
use Rattle.cutting.proofs.Plan.{next_whole, filled_none, filled_by_lem, plan_none, plan_step}
use Rattle.requests.specs.Requests.{checked}
use Rattle.std.specs.Prelude.{Result, Ok, Err}
use Rattle.plan_size.specs.declared.Total.{Total}
use Rattle.blocks.specs.Packets.{store_metric, report_packet, encode_packets, packets_for}
use Rattle.sound_writer.specs.Put.{put_packets, writing_refused}
use Rattle.writer.specs.Written.{if_all_sound, written}
use Rattle.packets.proofs.Packets.{length_report}
use Rattle.line_hex.specs.Hex.{hex_line, put_text}
use Rattle.line_refusal.specs.Refused.{refused_line}
use Rattle.line_hex.proofs.Hex.{length_line}
use Rattle.line_refusal.proofs.Refused.{length_refused}
use Rattle.line_report.specs.Report.{FourEach, lines_of, if_reported, requested_text, line_limit, line_room, line_sender, packet_room}
use Rattle.refusal.specs.declared.Refusal.TheVariants.{BadStore, BadLimit, TooManyRequests}
use Rattle.packet.specs.Packet as packet
use Rattle.cutting.specs.declared.NextBlock.TheVariants.{Whole}

-- ---- the plan: a block of four numbers has 16 octets

filled_all : (rs : List Request) (i room : ℕ) → FourEach rs → 16 * length rs ≤ room
    → filled_from room (whole_blocks i rs) ≡ record { packet = whole_blocks i rs; rest = [] }
filled_all [] i room f h = filled_none room
filled_all (r ∷ rs) i room f h =
    let n : block_octets r.count ≡ 16 = ap block_octets f.0 in
    filled_by_lem room (record { request = i; begin = r.begin; count = r.count }) (whole_blocks (suc i) rs) Whole (next_whole room r.count (omega arith))
    ∙ ap (λ q. onto (record { request = i; begin = r.begin; count = r.count }) q)
    (filled_all rs (suc i) (room - block_octets r.count) f.1 (omega arith))

octets_all : (rs : List Request) (i : ℕ) → FourEach rs → blocks_octets (counts (whole_blocks i rs)) ≡ 16 * length rs
octets_all [] i f = refl
octets_all (r ∷ rs) i f =
    let n : block_octets r.count ≡ 16 = ap block_octets f.0 in
    omega (arith, octets_all rs (suc i) f.1)

-- at most one packet
one_packet : (rs : List Request) → FourEach rs → length rs ≤ most_places → (length (plan line_limit rs) ≤ 1) × (total_octets (plan line_limit rs) ≤ packet_room)
one_packet [] f h = rw (plan_none line_limit) (omega arith, omega arith)
one_packet (r ∷ rs) f h =
    let room = line_limit - packet_frame in
    let e : filled_from room (whole_blocks 0 (r ∷ rs)) ≡ record { packet = whole_blocks 0 (r ∷ rs); rest = [] } = filled_all (r ∷ rs) 0 room f (omega arith) in
    rw (plan_step line_limit (record { request = 0; begin = r.begin; count = r.count }) (whole_blocks 1 rs) (omega arith), e, plan_none line_limit)
    (omega arith, omega (arith, octets_all (r ∷ rs) 0 f))

-- ---- the line

module _ (of : CutPacket → packet.Packet) (size : (p : CutPacket) → length (packet.encode_packet (of p)) ≡ packet_octets (counts p)) where
  one_line : (c : Cutting) (out : List ℕ) → length c ≤ 1 → total_octets c ≤ length out
      → (length c ≡ 0 → lines_of (map of c) ≡ [])
      × ((length c ≡ 0 → ⊥) → lines_of (map of c) ≡ hex_line (take (total_octets c) (sets out 0 (encode_packets (map of c)))))
  unfolding lines_of encode_packets
  one_line [] out l h = (λ z. refl, λ z. absurd (z refl))
  one_line (p ∷ []) out l h =
      let x = packet.encode_packet (of p) in
      let n : total_octets (p ∷ []) ≡ length x = omega (arith, size p) in
      let t : take (length x) (sets out 0 x) ≡ x = rw (sets-eq x out 0 (omega arith)) (take_at x (drop (0 + length x) out) (length x) refl) in
      (λ z. absurd (omega arith), λ z. rw (n, append-nil (hex_line x), append-nil x, t))
  one_line (p ∷ q ∷ c) out l h = absurd (omega arith)

-- what the writer's answer and the octets of its output are to the text
abbrev Says : Result Total Refusal → List ℕ → List ℕ → Type 0
Says (Ok t) exit text =
    (t.octets ≤ packet_room) × ((t.packets ≡ 0 → text ≡ []) × ((t.packets ≡ 0 → ⊥) → text ≡ hex_line (take t.octets exit)))
Says (Err e) exit text = text ≡ refused_line e

module _ (places cells : List ℕ) (rts : ℕ) (out : List ℕ) (rs : List Request) (few : length rs ≤ most_places)
    (room : length out ≡ packet_room) (four : FourEach rs) where
  says_put : Says (put_packets (plan line_limit rs) (packets_for places cells line_sender rts line_limit rs) out).answer
      (put_packets (plan line_limit rs) (packets_for places cells line_sender rts line_limit rs) out).output (lines_of (packets_for places cells line_sender rts line_limit rs))
  unfolding put_packets
  says_put =
      let one = one_packet rs four few in
      rw (le-ltb (length out) (total_octets (plan line_limit rs)) (omega (arith, one.1))) (
        one.1,
        one_line (report_packet (λ i. store_metric places cells rts (stream_of rs i)) rs line_sender rts)
            (length_report (λ i. store_metric places cells rts (stream_of rs i)) rs line_sender rts) (plan line_limit rs) out one.0 (omega (arith, one.1)),
      )

  says_by : (b : Bool) (v : Result (Unit {0}) Refusal)
      → let w : OutputAfter (Result Total Refusal) =
      cond b
      (cond (ltb line_limit 24) (writing_refused BadLimit out)
      (cond (ltb 9000 line_limit) (writing_refused BadLimit out)
      (cond (ltb most_places (length rs)) (writing_refused TooManyRequests out)
      (if_all_sound v (put_packets (plan line_limit rs) (packets_for places cells line_sender rts line_limit rs) out) out))))
      (writing_refused BadStore out) in
      Says w.answer w.output (cond b (if_reported v (lines_of (packets_for places cells line_sender rts line_limit rs))) (refused_line BadStore))
  says_by true (Ok tt) = rw (le-ltb most_places (length rs) few) says_put
  says_by true (Err e) = rw (le-ltb most_places (length rs) few) refl
  says_by false v = refl

  -- the writer's answer says what is printed
  says_written : (a : Result Total Refusal) (exit : List ℕ) → output_after a exit ≡ written places cells line_sender rts line_limit (length rs) rs out → Says a exit (requested_text places cells rts rs)
  unfolding written requested_text
  says_written a exit e =
      subst (λ (w : OutputAfter (Result Total Refusal)). Says w.answer w.output (requested_text places cells rts rs)) (sym e)
      (says_by (shaped places cells) (checked places [] rs))

-- the same of an answer that the code has in hand
pub record Said (a : Result Total Refusal) (exit text : List ℕ) : Type 0 where
  pub room : (packets octets : ℕ) → a ≡ Ok (record { packets = packets; octets = octets }) → octets ≤ packet_room
  pub none : (packets octets : ℕ) → a ≡ Ok (record { packets = packets; octets = octets }) → packets ≡ 0 → text ≡ []
  pub line : (packets octets : ℕ) → a ≡ Ok (record { packets = packets; octets = octets }) → (packets ≡ 0 → ⊥) → text ≡ hex_line (take octets exit)
  pub refused : (q : Refusal) → a ≡ Err q → text ≡ refused_line q

pub said : (places cells : List ℕ) (rts : ℕ) (out : List ℕ) (rs : List Request) → length rs ≤ most_places
    → packet_room ≡ length out → FourEach rs → (a : Result Total Refusal) (exit : List ℕ)
    → output_after a exit ≡ written places cells line_sender rts line_limit (length rs) rs out → Said a exit (requested_text places cells rts rs)
said places cells rts out rs few room four a exit e =
    record {
      room = λ p o is. (says (Ok (record { packets = p; octets = o })) is).0;
      none = λ p o is. (says (Ok (record { packets = p; octets = o })) is).1.0;
      line = λ p o is. (says (Ok (record { packets = p; octets = o })) is).1.1;
      refused = λ q is. says (Err q) is;
    }
  where
    says : (b : Result Total Refusal) → a ≡ b → Says b exit (requested_text places cells rts rs)
    says b is =
        subst (λ (x : Result Total Refusal). Says x exit (requested_text places cells rts rs)) is
        (says_written places cells rts out rs few (sym room) four a exit e)

-- ---- what is written

pub line_room_lem : (o : ℕ) (exit out : List ℕ) → o ≤ packet_room → line_room ≤ length out → 2 * length (take o exit) + 1 ≤ length out
line_room_lem o exit out h l = omega (arith, length-take o exit)

module _ (out text : List ℕ) where
  pub put_nothing : text ≡ [] → (output_after 0 out ≡ put_text out text) × (0 ≤ line_room)
  put_nothing e = (rw e, omega arith)

  module _ (r : ℕ) (exit : List ℕ) where
    pub put_refused : (q : Refusal) → text ≡ refused_line q → output_after r exit ≡ put_text out (refused_line q)
        → (output_after r exit ≡ put_text out text) × (r ≤ line_room)
    put_refused q e h = (rw e h, let n : r ≡ length (refused_line q) = ap (λ (x : OutputAfter ℕ). x.answer) h in omega (arith, length_refused q))

    pub put_packet : (o : ℕ) (packet : List ℕ) → o ≤ packet_room → text ≡ hex_line (take o packet)
        → output_after r exit ≡ put_text out (hex_line (take o packet)) → (output_after r exit ≡ put_text out text) × (r ≤ line_room)
    put_packet o packet l e h = (
      rw e h,
      let n : r ≡ length (hex_line (take o packet)) = ap (λ (x : OutputAfter ℕ). x.answer) h in
          omega (arith, length_line (take o packet), length-take o packet),
    )

    -- the same text, in the same room
    pub put_as : (room : ℕ) (other : List ℕ) → text ≡ other → (output_after r exit ≡ put_text out other) × (r ≤ room)
        → (output_after r exit ≡ put_text out text) × (r ≤ room)
    put_as room other e h = (rw e h.0, h.1)
