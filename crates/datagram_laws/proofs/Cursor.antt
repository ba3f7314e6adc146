-- Rules: "Datagram", rule "Packet by packet". The calls of `ccfb_next_packet`, from the offset 0 on,
-- give just the packets of a datagram and then 32; of other octets the packets before the fault, and
-- then 31. Assumes nothing.
use Prim.Native.Nat.{ℕ, ◌+◌, ◌≤◌}
use mathlib.Core.Path.{◌≡◌, refl, sym, ap, ◌∙◌}
use mathlib.Core.List.{List, [], ◌∷◌, ◌++◌, map, flatten, append_assoc}
use native.Mathlib.Omega.{arith}
use lib.ListN.{length, drop, get_or}
use Rattle.lists.specs.All.{All}
use Rattle.ccfb_calls.specs.Called.{Called, refused_with}
use Rattle.datagram.specs.Walk.{packet_at_of, packet_part, Parsed, packets, broken, in_front, packet_end, packets_from}
use Rattle.datagram.specs.Datagram.{IsPacket, NoPadding, HoldsPackets, NoDatagram, NoPacketIn, DatagramFault, placed_at, placed}
use Rattle.datagram.specs.declared.RtcpPacket.{RtcpPacket}
use Rattle.std.specs.Prelude.{Option, Result, Some, None, Ok, Err}
use Rattle.refusal.specs.declared.Refusal.{Refusal}
use Rattle.datagram.proofs.Steps.{step_end, step_none, found_within, bad_datagram_lem}
use Rattle.datagram.proofs.Walks.{walk_packet, walk_end, walk_broken, walk_ind}
use Rattle.datagram.proofs.Rules.{drop_behind, step_packet, step_is, held_walked, walked_held, broken_none}
use Rattle.ccfb_datagram.specs.Datagrams.{packet_given, packet_called}
use Rattle.datagram_laws.specs.Cursor.{next_call, CallsGive}
use Rattle.refusal.specs.declared.Refusal.TheVariants.{BadDatagram, NoPacket}

-- ---- what a call says of what stands at its offset

packet_same : (p q : RtcpPacket) → packet_given p ≡ packet_given q → p ≡ q
packet_same p q e =
    let field : (i : ℕ) → get_or (packet_given p).behind i 0 ≡ get_or (packet_given q).behind i 0 = λ i. ap (λ (c : Called). get_or c.behind i 0) e in
    fields (field 1) (field 2) (field 3) (field 4)
  where
    fields : p.packet_type ≡ q.packet_type → p.format ≡ q.format → p.at ≡ q.at → p.size ≡ q.size → p ≡ q
    fields t f a z =
        let made : ℕ → ℕ → ℕ → ℕ → RtcpPacket = λ t f a z. record { packet_type = t; format = f; at = a; size = z } in
        ap (λ (x : ℕ). made x p.format p.at p.size) t
        ∙ ap (λ (x : ℕ). made q.packet_type x p.at p.size) f
        ∙ ap (λ (x : ℕ). made q.packet_type q.format x p.size) a
        ∙ ap (λ (x : ℕ). made q.packet_type q.format q.at x) z

-- the only refusal of a step is that of octets that are no packet
abbrev OnlyBroken : Result (Option RtcpPacket) Refusal → Type 0
OnlyBroken k = (x : Refusal) → k ≡ Err x → x ≡ BadDatagram

module _ (before : List ℕ) where
  answer_other : {P : Type 0} (c d : Called) → c ≡ d → (c.answer ≡ d.answer → ⊥) → P
  answer_other c d e n = absurd (n (ap (λ (x : Called). x.answer) e))

  called_packet : (p : RtcpPacket) (k : Result (Option RtcpPacket) Refusal) → OnlyBroken k → packet_called k before ≡ packet_given p → k ≡ Ok (Some p)
  called_packet p (Ok (Some q)) b e = ap (λ (x : RtcpPacket). Ok (Some x)) (packet_same q p e)
  called_packet p (Ok None) b e = answer_other _ _ e (λ n. omega arith)
  called_packet p (Err x) b e = answer_other _ _ (rw (b x refl) at e) (λ n. omega arith)

  called_end : (k : Result (Option RtcpPacket) Refusal) → OnlyBroken k → packet_called k before ≡ refused_with NoPacket before → k ≡ Ok None
  called_end (Ok (Some q)) b e = answer_other _ _ e (λ n. omega arith)
  called_end (Ok None) b e = refl
  called_end (Err x) b e = answer_other _ _ (rw (b x refl) at e) (λ n. omega arith)

  called_broken : (k : Result (Option RtcpPacket) Refusal) → OnlyBroken k → packet_called k before ≡ refused_with BadDatagram before → k ≡ Err BadDatagram
  called_broken (Ok (Some q)) b e = answer_other _ _ e (λ n. omega arith)
  called_broken (Ok None) b e = answer_other _ _ e (λ n. omega arith)
  called_broken (Err x) b e = ap (λ (y : Refusal). Err y) (b x refl)

-- ---- the calls find what the walk finds

module _ (s : List ℕ) where
  abbrev ByCalls : ℕ → Parsed → Type 0
  ByCalls at (packets bs) = CallsGive s NoPacket at bs
  ByCalls at broken = Unit {0}

  calls_packet : (at : ℕ) (p : RtcpPacket) (w : Parsed) → packet_at_of s at ≡ Ok (Some p) → ByCalls (packet_end p) w → ByCalls at (in_front p w)
  calls_packet at p (packets bs) e g = CallsGive.next {at = at} p (λ others. rw e) g
  calls_packet at p broken e g = tt

  by_calls : (at : ℕ) → ByCalls at (packets_from s at)
  by_calls = walk_ind s ByCalls (λ at l. CallsGive.end {at = at} (λ others. rw (← step_end s at l))) (λ at n. tt) calls_packet

  gives_walked : {at : ℕ} {bs : List RtcpPacket} → CallsGive s NoPacket at bs → packets_from s at ≡ packets bs
  gives_walked (CallsGive.end {at} e) = walk_end s at (packet_at_of s at) refl (called_end (at ∷ []) (packet_at_of s at) (bad_datagram_lem s at) (e []))
  gives_walked (CallsGive.next {at} b e g) =
      walk_packet s at (packet_at_of s at) refl b (called_packet (at ∷ []) b (packet_at_of s at) (bad_datagram_lem s at) (e [])) ∙ ap (in_front b) (gives_walked g)

  stops_broken : {at : ℕ} {bs : List RtcpPacket} → CallsGive s BadDatagram at bs → packets_from s at ≡ broken
  stops_broken (CallsGive.end {at} e) = walk_broken s at (packet_at_of s at) refl BadDatagram (called_broken (at ∷ []) (packet_at_of s at) (bad_datagram_lem s at) (e []))
  stops_broken (CallsGive.next {at} b e g) =
      walk_packet s at (packet_at_of s at) refl b (called_packet (at ∷ []) b (packet_at_of s at) (bad_datagram_lem s at) (e [])) ∙ ap (in_front b) (stops_broken g)

  -- packets without padding, and then a fault
  fault_from : (at : ℕ) (ps : List (List ℕ)) (rest : List ℕ) → flatten ps ++ rest ≡ drop at s → All IsPacket ps → All NoPadding ps
      → NoPacketIn rest → CallsGive s BadDatagram at (placed at ps)
  unfolding flatten placed
  fault_from at [] rest e i n f = CallsGive.end {at = at} (λ others. rw (← step_none s at (rw e at f)))
  fault_from at (p ∷ ps) rest e i n f =
      let here : p ++ (flatten ps ++ rest) ≡ drop at s = sym (append_assoc p (flatten ps) rest) ∙ e in
      let step = step_packet s at p (flatten ps ++ rest) here (record { packet = i.0; padding = λ l. n.0 }) in
      CallsGive.next {at = at} (placed_at at p) (λ others. rw (← step))
      (fault_from (at + length p) ps rest (sym (drop_behind s at p (flatten ps ++ rest) here)) i.1 n.1 f)

  -- ---- the rules

  -- from 0 on the calls give the packets that a datagram holds, where they stand, and then 32
  pub held_gives : (ps : List (List ℕ)) → HoldsPackets s ps → CallsGive s NoPacket 0 (placed 0 ps)
  held_gives ps h = rw (held_walked s ps h) at (by_calls 0)

  -- what they give before 32 is the packets of a datagram, where they stand
  pub gives_held : (bs : List RtcpPacket) → CallsGive s NoPacket 0 bs → HoldsPackets s (map (packet_part s) bs) × (placed 0 (map (packet_part s) bs) ≡ bs)
  gives_held bs g = walked_held s bs (gives_walked g)

  -- of octets with a fault they give the packets before it, and then 31
  pub fault_gives : (f : DatagramFault s) → CallsGive s BadDatagram 0 (placed 0 f.before)
  fault_gives f = fault_from 0 f.before f.rest f.joined f.each f.padding f.fault

  -- they come to 31 only if the octets are no datagram
  pub gives_none : (bs : List RtcpPacket) → CallsGive s BadDatagram 0 bs → NoDatagram s
  gives_none bs g = broken_none s (stops_broken g)

  -- what a call gives at any offset is a packet, at that offset and within the octets
  module _ (at : ℕ) (others : List ℕ) (p : RtcpPacket) (e : next_call s at others ≡ packet_given p) where
    stands : packet_at_of s at ≡ Ok (Some p)
    stands = called_packet (at ∷ others) p (packet_at_of s at) (bad_datagram_lem s at) e

    pub given_is : IsPacket (packet_part s p) × (placed_at at (packet_part s p) ≡ p)
    given_is = step_is s at p stands

    pub given_within : packet_end p ≤ length s
    given_within = found_within s at p stands
