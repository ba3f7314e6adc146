-- Rules: "Datagram". The walk finds just the packets of a datagram, and is broken just where octets
-- are no datagram. Assumes nothing.
use Prim.Native.Nat.{ℕ, suc, ◌+◌, ◌<◌, ◌≤◌}
use mathlib.Core.Bool.{Bool, true, false, cond}
use mathlib.Core.Path.{◌≡◌, refl, sym, ap, subst, ◌∙◌}
use mathlib.Core.List.{List, [], ◌∷◌, ◌++◌, map, flatten, append_assoc}
use native.Mathlib.Omega.{arith}
use lib.ListN.{length, take, drop, length-append, length-drop, take-append-drop, drop_of_length-le}
use lib.Seq.{drop-drop, take_at, drop-append_seam}
use Rattle.lists.specs.All.{All}
use Rattle.lists.specs.Kept.{kept}
use Rattle.lists.proofs.Cases.{never}
use Rattle.lists.proofs.Kept.{kept_map}
use Rattle.packet_header.specs.Header.{length_of}
use Rattle.datagram.specs.Datagram.{IsPacket, NoPadding, HoldsPackets, NoDatagram, NoPacketIn, DatagramFault, placed_at, placed}
use Rattle.datagram.specs.Feedback.{found_is_ccfb, octets_are_ccfb, feedback_of, feedback_in}
use Rattle.datagram.specs.Walk.{packet_at_of, packet_part, Parsed, packets, broken, in_front, packet_end, packets_from, packets_of}
use Rattle.datagram.specs.declared.RtcpPacket.{RtcpPacket}
use Rattle.std.specs.Prelude.{Some, None, Ok, Err}
use Rattle.refusal.specs.declared.Refusal.TheVariants.{BadDatagram}
use Rattle.datagram.proofs.Steps.{PacketBefore, front_packet, front_none, found, found_before, fault_octets, step_end}
use Rattle.datagram.proofs.Walks.{walk_packet, walk_end, walk_broken, walk_ind}

-- ---- a packet in front of a datagram, and in front of a fault

module _ (p : List ℕ) where
  holds_before : (rest : List ℕ) (ps : List (List ℕ)) → PacketBefore p rest → HoldsPackets rest ps → HoldsPackets (p ++ rest) (p ∷ ps)
  unfolding flatten
  holds_before rest [] b h = record { joined = ap (λ r. p ++ r) h.joined; each = (b.packet, tt); padding = tt }
  holds_before rest (q ∷ qs) b h =
      let l : length q + length (flatten qs) ≡ length rest = sym (length-append q (flatten qs)) ∙ ap length h.joined in
      let more : 0 < length rest = omega (arith, h.each.0.header) in
      record { joined = ap (λ r. p ++ r) h.joined; each = (b.packet, h.each); padding = (b.padding more, h.padding) }

  holds_first : (s : List ℕ) (ps : List (List ℕ)) → HoldsPackets s (p ∷ ps) → PacketBefore p (flatten ps) × HoldsPackets (flatten ps) ps
  unfolding flatten
  holds_first s [] h = (record { packet = h.each.0; padding = λ l. absurd (omega arith) }, record { joined = refl; each = tt; padding = tt })
  holds_first s (q ∷ ps) h =
      (record { packet = h.each.0; padding = λ l. h.padding.0 }, record { joined = refl; each = h.each.1; padding = h.padding.1 })

  fault_before : (rest : List ℕ) → PacketBefore p rest → DatagramFault rest → DatagramFault (p ++ rest)
  unfolding flatten
  fault_before rest b f =
      let l : length (flatten f.before) + length f.rest ≡ length rest = sym (length-append (flatten f.before) f.rest) ∙ ap length f.joined in
      record {
        before = p ∷ f.before;
        rest = f.rest;
        joined = append_assoc p (flatten f.before) f.rest ∙ ap (λ r. p ++ r) f.joined;
        each = (b.packet, f.each);
        padding = (b.padding (omega (arith, fault_octets f.fault)), f.padding);
        fault = f.fault;
      }

-- ---- a packet at an offset

module _ (s : List ℕ) (at : ℕ) (p rest : List ℕ) (here : p ++ rest ≡ drop at s) where
  octets_at_lem : packet_part s (placed_at at p) ≡ p
  octets_at_lem = rw (← here) (take_at p rest (length p) refl)

  pub drop_behind : drop (at + length p) s ≡ rest
  drop_behind = sym (drop-drop (length p) at s) ∙ rw (← here) (drop-append_seam p rest)

  module _ (before : PacketBefore p rest) where
    pub step_packet : Ok (Some (placed_at at p)) ≡ packet_at_of s at
    unfolding packet_at_of
    step_packet = rw (← here) (front_packet p rest at before)

    walk_first : packets_from s at ≡ in_front (placed_at at p) (packets_from s (at + length p))
    walk_first = walk_packet s at (Ok (Some (placed_at at p))) step_packet (placed_at at p) refl

-- what the walk gives at an offset is a packet, where it says
pub step_is : (s : List ℕ) (at : ℕ) (b : RtcpPacket) → packet_at_of s at ≡ Ok (Some b) → IsPacket (packet_part s b) × (placed_at at (packet_part s b) ≡ b)
step_is s at b f =
    let size : ℕ = length_of (drop at s) in
    let p : List ℕ = take size (drop at s) in
    let rest : List ℕ = drop size (drop at s) in
    let e : p ++ rest ≡ drop at s = take-append-drop size (drop at s) in
    let before : PacketBefore p rest = found_before (drop at s) (found s at b f).0 in
    let same : placed_at at p ≡ b = cc (step_packet s at p rest e before) in
    let part : packet_part s b ≡ p = subst (λ (x : RtcpPacket). packet_part s x ≡ p) same (octets_at_lem s at p rest e) in
    (rw part before.packet, rw part same)

-- ---- packets back to back, starting at an offset

-- each stands where `placed` says
octets_from : (s : List ℕ) (at : ℕ) (ps : List (List ℕ)) → flatten ps ≡ drop at s → map (packet_part s) (placed at ps) ≡ ps
unfolding flatten placed
octets_from s at [] e = refl
octets_from s at (p ∷ ps) e =
    rw (octets_at_lem s at p (flatten ps) e) (ap (λ r. p ∷ r) (octets_from s (at + length p) ps (sym (drop_behind s at p (flatten ps) e))))

-- the walk finds them
held_from : (s : List ℕ) (at : ℕ) (ps : List (List ℕ)) → HoldsPackets (drop at s) ps → packets_from s at ≡ packets (placed at ps)
unfolding flatten placed
held_from s at [] h = walk_end s at (Ok None) (step_end s at (omega (arith, length-drop at s, ap length h.joined))) refl
held_from s at (p ∷ ps) h =
    let f = holds_first p (drop at s) ps h in
    walk_first s at p (flatten ps) h.joined f.0
    ∙ ap (in_front (placed_at at p)) (held_from s (at + length p) ps (rw (drop_behind s at p (flatten ps) h.joined) f.1))

-- it is broken where a fault stands behind them
fault_from : (s : List ℕ) (at : ℕ) (ps : List (List ℕ)) (rest : List ℕ) → flatten ps ++ rest ≡ drop at s → All IsPacket ps → All NoPadding ps
    → NoPacketIn rest → packets_from s at ≡ broken
unfolding flatten packet_at_of
fault_from s at [] rest e i n f = walk_broken s at (Err BadDatagram) (rw (← e) (front_none rest at f)) BadDatagram refl
fault_from s at (p ∷ ps) rest e i n f =
    let here : p ++ (flatten ps ++ rest) ≡ drop at s = sym (append_assoc p (flatten ps) rest) ∙ e in
    walk_first s at p (flatten ps ++ rest) here (record { packet = i.0; padding = λ l. n.0 })
    ∙ ap (in_front (placed_at at p)) (fault_from s (at + length p) ps rest (sym (drop_behind s at p (flatten ps ++ rest) here)) i.1 n.1 f)

-- ---- what the walk finds

-- the walk that starts at an offset found what is there
abbrev Reads : List ℕ → ℕ → Parsed → Type 0
Reads s at (packets bs) = HoldsPackets (drop at s) (map (packet_part s) bs) × (placed at (map (packet_part s) bs) ≡ bs)
Reads s at broken = DatagramFault (drop at s)

reads_more : (s : List ℕ) (at : ℕ) (p rest : List ℕ) (w : Parsed) → p ++ rest ≡ drop at s → PacketBefore p rest
    → Reads s (at + length p) w → Reads s at (in_front (placed_at at p) w)
unfolding placed
reads_more s at p rest (packets bs) e b h =
    let held : HoldsPackets (p ++ rest) (p ∷ map (packet_part s) bs) = holds_before p rest (map (packet_part s) bs) b (rw (drop_behind s at p rest e) at h.0) in
    rw (octets_at_lem s at p rest e) (rw e at held, ap (λ r. placed_at at p ∷ r) h.1)
reads_more s at p rest broken e b f =
    rw e at (fault_before p rest b (rw (drop_behind s at p rest e) at f))

reads_end : (s : List ℕ) (at : ℕ) → length s ≤ at → Reads s at (packets [])
unfolding flatten placed
reads_end s at l = (record { joined = sym (drop_of_length-le s {i = at} l); each = tt; padding = tt }, refl)

reads_fault : (s : List ℕ) (at : ℕ) → NoPacketIn (drop at s) → Reads s at broken
unfolding flatten
reads_fault s at n = record { before = []; rest = drop at s; joined = refl; each = tt; padding = tt; fault = n }

reads : (s : List ℕ) (at : ℕ) → Reads s at (packets_from s at)
reads s = walk_ind s (Reads s) (reads_end s) (reads_fault s) at_packet
  where
    at_packet : (at : ℕ) (b : RtcpPacket) (w : Parsed) → packet_at_of s at ≡ Ok (Some b) → Reads s (packet_end b) w → Reads s at (in_front b w)
    at_packet at b w f h =
        let size : ℕ = length_of (drop at s) in
        let p : List ℕ = take size (drop at s) in
        let rest : List ℕ = drop size (drop at s) in
        let e : p ++ rest ≡ drop at s = take-append-drop size (drop at s) in
        let before : PacketBefore p rest = found_before (drop at s) (found s at b f).0 in
        let same : placed_at at p ≡ b = cc (step_packet s at p rest e before) in
        subst (λ (x : RtcpPacket). Reads s (packet_end x) w → Reads s at (in_front x w)) same (reads_more s at p rest w e before) h

-- ---- the rules

module _ (s : List ℕ) (ps : List (List ℕ)) (held : HoldsPackets s ps) where
  -- the walk finds the packets that a datagram holds
  pub held_walked : packets_of s ≡ packets (placed 0 ps)
  held_walked = held_from s 0 ps held

  -- each stands where `placed` says
  pub held_octets : map (packet_part s) (placed 0 ps) ≡ ps
  held_octets = octets_from s 0 ps held.joined

-- the datagram holds the packets that the walk finds, where it finds them
pub walked_held : (s : List ℕ) (bs : List RtcpPacket) → packets_of s ≡ packets bs
    → HoldsPackets s (map (packet_part s) bs) × (placed 0 (map (packet_part s) bs) ≡ bs)
walked_held s bs e = rw e at (reads s 0)

-- a datagram can be read in one way
pub held_once : (s : List ℕ) (ps qs : List (List ℕ)) → HoldsPackets s ps → HoldsPackets s qs → ps ≡ qs
held_once s ps qs h k =
    let e : placed 0 ps ≡ placed 0 qs = cc (held_walked s ps h, held_walked s qs k) in
    sym (held_octets s ps h) ∙ rw e (held_octets s qs k)

-- where the walk finds no datagram there is a fault, and so in reverse
pub broken_fault : (s : List ℕ) → packets_of s ≡ broken → DatagramFault s
broken_fault s e = rw e at (reads s 0)

pub fault_broken : (s : List ℕ) → DatagramFault s → packets_of s ≡ broken
fault_broken s f = fault_from s 0 f.before f.rest f.joined f.each f.padding f.fault

-- octets are a datagram, or they are none
pub held_cases : {P : Type 0} (s : List ℕ) → ((ps : List (List ℕ)) → HoldsPackets s ps → P) → (packets_of s ≡ broken → P) → P
held_cases {P} s held none = by_walk (packets_of s) refl
  where
    by_walk : (w : Parsed) → packets_of s ≡ w → P
    by_walk (packets bs) e = held (map (packet_part s) bs) (walked_held s bs e).0
    by_walk broken e = none e

-- the walk finds no datagram just where the octets hold no packets back to back
pub broken_none : (s : List ℕ) → packets_of s ≡ broken → NoDatagram s
broken_none s e ps h = never (cc (held_walked s ps h))

pub none_broken : (s : List ℕ) → NoDatagram s → packets_of s ≡ broken
none_broken s none = held_cases s (λ ps h. absurd (none ps h)) (λ e. e)

-- no octets are a datagram that holds no packets
pub no_octets : HoldsPackets [] []
unfolding flatten
no_octets = record { joined = refl; each = tt; padding = tt }

pub no_octets_only : (ps : List (List ℕ)) → HoldsPackets [] ps → ps ≡ []
no_octets_only ps h = held_once [] ps [] h no_octets

-- ---- packets lie within the datagram

within_from : (n at : ℕ) (ps : List (List ℕ)) → at + length (flatten ps) ≤ n → All (λ b. packet_end b ≤ n) (placed at ps)
unfolding flatten placed
within_from n at [] l = tt
within_from n at (p ∷ ps) l =
    let e : length (p ++ flatten ps) ≡ length p + length (flatten ps) = length-append p (flatten ps) in
    (omega arith, within_from n (at + length p) ps (omega arith))

pub placed_within : (s : List ℕ) (ps : List (List ℕ)) → HoldsPackets s ps → All (λ b. packet_end b ≤ length s) (placed 0 ps)
placed_within s ps h = within_from (length s) 0 ps (omega (arith, ap length h.joined))

-- ---- the CCFB packets

-- the test by the header that the walk read, and by the octets of the packet
SameTest : List ℕ → RtcpPacket → Type 0
SameTest s b = octets_are_ccfb (packet_part s b) ≡ found_is_ccfb b

same_tests : (s : List ℕ) (at : ℕ) (ps : List (List ℕ)) → flatten ps ≡ drop at s → All (SameTest s) (placed at ps)
unfolding flatten placed SameTest
same_tests s at [] e = tt
same_tests s at (p ∷ ps) e =
    (rw (octets_at_lem s at p (flatten ps) e), same_tests s (at + length p) ps (sym (drop_behind s at p (flatten ps) e)))

feedback_from : (s : List ℕ) (at : ℕ) (ps : List (List ℕ)) → flatten ps ≡ drop at s
    → map (packet_part s) (feedback_of (placed at ps)) ≡ feedback_in ps
unfolding SameTest
feedback_from s at ps e =
    kept_map (packet_part s) found_is_ccfb octets_are_ccfb (placed at ps) (same_tests s at ps e)
    ∙ ap feedback_in (octets_from s at ps e)

-- of the packets of a datagram, the walk finds the CCFB packets
pub placed_feedback : (s : List ℕ) (ps : List (List ℕ)) → HoldsPackets s ps → map (packet_part s) (feedback_of (placed 0 ps)) ≡ feedback_in ps
placed_feedback s ps h = feedback_from s 0 ps h.joined

-- where packets stand does not change how many are CCFB packets
pub placed_count : (at : ℕ) (ps : List (List ℕ)) → length (feedback_of (placed at ps)) ≡ length (feedback_in ps)
unfolding kept placed
placed_count at [] = refl
placed_count at (p ∷ ps) = by_test (octets_are_ccfb p) (placed_count (at + length p) ps)
  where
    by_test : (b : Bool) → length (feedback_of (placed (at + length p) ps)) ≡ length (feedback_in ps)
        → length (cond b (placed_at at p ∷ feedback_of (placed (at + length p) ps)) (feedback_of (placed (at + length p) ps)))
        ≡ length (cond b (p ∷ feedback_in ps) (feedback_in ps))
    by_test true e = ap suc e
    by_test false e = e
