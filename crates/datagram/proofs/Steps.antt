-- What stands in front of octets, in each case and in the order of the tests; and at an offset. Assumes nothing.
use Prim.Native.Nat.{ℕ, ◌+◌, ◌<◌, ◌≤◌}
use mathlib.Core.Bool.{Bool, true, false, cond, ◌&&◌}
use mathlib.Core.Path.{◌≡◌, refl, sym, ap, subst, ◌∙◌}
use mathlib.Core.List.{List, ◌++◌}
use native.Mathlib.Omega.{arith}
use lib.Dec.{ltb}
use borrow.Author.Tests.{lt-ltb, le-ltb, eq-eqb, ne_eqb}
use lib.ListN.{length, take, drop, get_or, length-append, length-drop, take-append-drop, get_or-append}
use lib.Seq.{length-take-le}
use Rattle.lists.proofs.Cases.{never, split_le, split_eq}
use Rattle.octets.proofs.Parts.{front16}
use Rattle.packet_header.specs.Header.{differ, version_of, padding_of, length_of}
use Rattle.datagram.specs.Walk.{packet_here, padded_inside, front_of, packet_at_of, packet_end}
use Rattle.datagram.specs.Datagram.{rtcp_header_octets, IsPacket, NoPadding, NoPacketIn, placed_at}
use Rattle.datagram.specs.declared.RtcpPacket.{RtcpPacket}
use Rattle.std.specs.Prelude.{Option, Result, Some, None, Ok, Err}
use Rattle.refusal.specs.declared.Refusal.{Refusal}
use Rattle.refusal.specs.declared.Refusal.TheVariants.{BadDatagram}

module _ (rest : List ℕ) (at : ℕ) where
  pub front_end : length rest ≡ 0 → Ok None ≡ front_of rest at
  front_end h = simp (eq-eqb (length rest) 0 h)

  pub front_few : 0 < length rest → length rest < rtcp_header_octets → Err BadDatagram ≡ front_of rest at
  front_few h f = simp (ne_eqb (length rest) 0 (λ e. omega arith), lt-ltb (length rest) rtcp_header_octets f)

  module _ (header : rtcp_header_octets ≤ length rest) where
    pub front_version : (version_of rest ≡ 2 → ⊥) → Err BadDatagram ≡ front_of rest at
    front_version h =
        simp (ne_eqb (length rest) 0 (λ e. omega arith), le-ltb (length rest) rtcp_header_octets header, ne_eqb (version_of rest) 2 h)

    module _ (version : version_of rest ≡ 2) where
      pub front_past : length rest < length_of rest → Err BadDatagram ≡ front_of rest at
      front_past h =
          simp (
            ne_eqb (length rest) 0 (λ e. omega arith),
            le-ltb (length rest) rtcp_header_octets header,
            eq-eqb (version_of rest) 2 version,
            lt-ltb (length rest) (length_of rest) h,
          )

      module _ (fits : length_of rest ≤ length rest) where
        front_fits : front_of rest at ≡ cond (padded_inside rest) (Err BadDatagram) (Ok (Some (packet_here rest at)))
        front_fits =
            simp (
              ne_eqb (length rest) 0 (λ e. omega arith),
              le-ltb (length rest) rtcp_header_octets header,
              eq-eqb (version_of rest) 2 version,
              le-ltb (length rest) (length_of rest) fits,
            )

        pub front_padded : length_of rest < length rest → (padding_of rest ≡ 0 → ⊥) → Err BadDatagram ≡ front_of rest at
        front_padded h p = rw front_fits (simp (lt-ltb (length_of rest) (length rest) h, ne_eqb (padding_of rest) 0 p))

        pub front_unpadded : padding_of rest ≡ 0 → Ok (Some (packet_here rest at)) ≡ front_of rest at
        front_unpadded p = rw front_fits (by_length (ltb (length_of rest) (length rest)))
          where
            by_length : (b : Bool) → Ok (Some (packet_here rest at)) ≡ cond (b && differ (padding_of rest) 0) (Err BadDatagram) (Ok (Some (packet_here rest at)))
            by_length true = simp (eq-eqb (padding_of rest) 0 p)
            by_length false = refl

        pub front_last : length_of rest ≡ length rest → Ok (Some (packet_here rest at)) ≡ front_of rest at
        front_last h = rw front_fits (simp (le-ltb (length_of rest) (length rest) (omega arith)))

-- all that holds where a packet stands in front
pub record FoundPacket (rest : List ℕ) : Type 0 where
  pub header : rtcp_header_octets ≤ length rest
  pub version : version_of rest ≡ 2
  pub room : length_of rest ≤ length rest
  pub padding : length_of rest < length rest → padding_of rest ≡ 0

-- what stands in front, by cases
pub front_cases : (P : Result (Option RtcpPacket) Refusal → Type 0) (rest : List ℕ) (at : ℕ) → (length rest ≡ 0 → P (Ok None)) → (NoPacketIn rest → P (Err BadDatagram))
    → (FoundPacket rest → P (Ok (Some (packet_here rest at))))
    → P (front_of rest at)
front_cases P rest at end none packet =
    split_le rtcp_header_octets (length rest)
    (λ h. split_eq (version_of rest) 2
    (λ v. split_le (length_of rest) (length rest) (fitting h v) (λ l. subst P (front_past rest at h v l) (none (NoPacketIn.past_the_end h (omega arith)))))
    (λ v. subst P (front_version rest at h v) (none (NoPacketIn.other_version h v))))
    (λ l. split_eq (length rest) 0 (λ e. subst P (front_end rest at e) (end e))
    (λ n. subst P (front_few rest at (omega arith) l) (none (NoPacketIn.few_octets (omega arith) l))))
  where
    fitting : rtcp_header_octets ≤ length rest → version_of rest ≡ 2 → length_of rest ≤ length rest → P (front_of rest at)
    fitting h v f =
        split_eq (padding_of rest) 0
        (λ p. subst P (front_unpadded rest at h v f p) (packet (record { header = h; version = v; room = f; padding = λ l. p })))
        (λ p. split_le (length rest) (length_of rest)
        (λ l. subst P (front_last rest at h v f (omega arith))
        (packet (record { header = h; version = v; room = f; padding = λ m. absurd (omega arith) })))
        (λ l. subst P (front_padded rest at h v f l p) (none (NoPacketIn.padded_early h l p))))

-- ---- a packet, and the octets behind it

-- p is a packet, and rest may stand behind it
pub record PacketBefore (p rest : List ℕ) : Type 0 where
  pub packet : IsPacket p
  pub padding : 0 < length rest → NoPadding p

module _ (p rest : List ℕ) (header : rtcp_header_octets ≤ length p) where
  -- a header is read in its packet alone
  front_octet : (i : ℕ) → i < rtcp_header_octets → get_or (p ++ rest) i 0 ≡ get_or p i 0
  front_octet i l = get_or-append p rest 0 i (omega arith)

  front_length : length_of (p ++ rest) ≡ length_of p
  front_length = rw (front16 p rest 2 (omega arith))

-- such a packet is found
pub front_packet : (p rest : List ℕ) (at : ℕ) → PacketBefore p rest → Ok (Some (placed_at at p)) ≡ front_of (p ++ rest) at
front_packet p rest at b =
    let h : rtcp_header_octets ≤ length p = b.packet.header in
    let o : get_or (p ++ rest) 0 0 ≡ get_or p 0 0 = front_octet p rest h 0 (omega arith) in
    let w : length_of (p ++ rest) ≡ length p = front_length p rest h ∙ b.packet.words in
    let l : length (p ++ rest) ≡ length p + length rest = length-append p rest in
    let same : placed_at at p ≡ packet_here (p ++ rest) at = rw (o, front_octet p rest h 1 (omega arith), w) in
    let v : version_of (p ++ rest) ≡ 2 = rw o b.packet.version in
    split_eq (length rest) 0 (λ e. ap (λ (x : RtcpPacket). Ok (Some x)) same ∙ front_last (p ++ rest) at (omega arith) v (omega arith) (omega arith))
    (λ n. ap (λ (x : RtcpPacket). Ok (Some x)) same ∙ front_unpadded (p ++ rest) at (omega arith) v (omega arith) (rw o (b.padding (omega arith))))

-- what is found is such a packet
pub found_before : (rest : List ℕ) → FoundPacket rest → PacketBefore (take (length_of rest) rest) (drop (length_of rest) rest)
found_before rest f =
    let p : List ℕ = take (length_of rest) rest in
    let joined : p ++ drop (length_of rest) rest ≡ rest = take-append-drop (length_of rest) rest in
    let l : length p ≡ length_of rest = length-take-le (length_of rest) rest f.room in
    let h : rtcp_header_octets ≤ length p = omega arith in
    let o : get_or rest 0 0 ≡ get_or p 0 0 = ap (λ (r : List ℕ). get_or r 0 0) (sym joined) ∙ front_octet p (drop (length_of rest) rest) h 0 (omega arith) in
    let w : length_of rest ≡ length_of p = ap (λ (r : List ℕ). length_of r) (sym joined) ∙ front_length p (drop (length_of rest) rest) h in
    record {
      packet = record { header = h; version = rw (← o) f.version; words = sym w ∙ sym l };
      padding = λ m. rw (← o) (f.padding (omega (arith, length-drop (length_of rest) rest)));
    }

-- a fault takes octets, and no packet is found there
pub fault_octets : {rest : List ℕ} → NoPacketIn rest → 0 < length rest
fault_octets (NoPacketIn.few_octets m l) = m
fault_octets (NoPacketIn.other_version h v) = omega arith
fault_octets (NoPacketIn.past_the_end h l) = omega arith
fault_octets (NoPacketIn.padded_early h l p) = omega arith

found_no_fault : {rest : List ℕ} → NoPacketIn rest → FoundPacket rest → ⊥
found_no_fault (NoPacketIn.few_octets m l) f = omega arith
found_no_fault (NoPacketIn.other_version h v) f = v f.version
found_no_fault (NoPacketIn.past_the_end h l) f = omega arith
found_no_fault (NoPacketIn.padded_early h l p) f = p (f.padding l)

pub front_none : (rest : List ℕ) (at : ℕ) → NoPacketIn rest → Err BadDatagram ≡ front_of rest at
front_none rest at n =
    front_cases (λ k. Err BadDatagram ≡ k) rest at (λ e. absurd (omega (arith, fault_octets n))) (λ m. refl) (λ f. absurd (found_no_fault n f))

-- ---- at an offset

module _ (s : List ℕ) (at : ℕ) where
  pub step_cases : (P : Result (Option RtcpPacket) Refusal → Type 0) → (length s ≤ at → P (Ok None)) → (NoPacketIn (drop at s) → P (Err BadDatagram))
      → (FoundPacket (drop at s) → P (Ok (Some (packet_here (drop at s) at))))
      → P (packet_at_of s at)
  unfolding packet_at_of
  step_cases P end none packet = front_cases P (drop at s) at (λ e. end (omega (arith, length-drop at s))) none packet

  pub step_end : length s ≤ at → Ok None ≡ packet_at_of s at
  unfolding packet_at_of
  step_end h = front_end (drop at s) at (omega (arith, length-drop at s))

  pub step_none : NoPacketIn (drop at s) → Err BadDatagram ≡ packet_at_of s at
  unfolding packet_at_of
  step_none n = front_none (drop at s) at n

  pub ended : packet_at_of s at ≡ Ok None → length s ≤ at
  ended = step_cases (λ k. k ≡ Ok None → length s ≤ at) (λ h e. h) (λ n e. never (cc)) (λ f e. never (cc))

  pub no_packet_lem : (x : Refusal) → packet_at_of s at ≡ Err x → NoPacketIn (drop at s)
  no_packet_lem x = step_cases (λ k. k ≡ Err x → NoPacketIn (drop at s)) (λ h e. never (cc)) (λ n e. n) (λ f e. never (cc))

  -- the walk has one refusal
  pub bad_datagram_lem : (x : Refusal) → packet_at_of s at ≡ Err x → x ≡ BadDatagram
  bad_datagram_lem x = step_cases (λ k. k ≡ Err x → x ≡ BadDatagram) (λ h e. never (cc)) (λ n e. cc) (λ f e. never (cc))

  module _ (p : RtcpPacket) (e : packet_at_of s at ≡ Ok (Some p)) where
    pub found : FoundPacket (drop at s) × (p ≡ packet_here (drop at s) at)
    found =
        step_cases (λ k. k ≡ Ok (Some p) → FoundPacket (drop at s) × (p ≡ packet_here (drop at s) at)) (λ h e. never (cc)) (λ n e. never (cc))
        (λ f e. (f, cc)) e

    pub found_at : p.at ≡ at
    found_at = ap (λ (x : RtcpPacket). x.at) found.1

    pub found_size : p.size ≡ length_of (drop at s)
    found_size = ap (λ (x : RtcpPacket). x.size) found.1

    -- a packet has its header, and lies within the datagram
    pub found_more : at + rtcp_header_octets ≤ packet_end p
    found_more = omega (arith, found_at, found_size)

    pub found_within : packet_end p ≤ length s
    found_within = omega (arith, found_at, found_size, found.0.room, found.0.header, length-drop at s)
