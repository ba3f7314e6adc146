-- The calls about a datagram give each refusal exactly if its condition holds and none before it.
-- Assumes nothing.
use Prim.Native.Nat.{ℕ, ◌+◌}
use mathlib.Core.Bool.{true}
use mathlib.Core.Logic.{inl, inr}
use mathlib.Core.Path.{◌≡◌, refl, sym, ap, subst, ◌∙◌}
use mathlib.Core.List.{List, [], ◌∷◌, ◌++◌}
use lib.ListN.{length, drop}
use borrow.Author.Tests.{eq-eqb, ne_eqb}
use Rattle.lists.specs.Kept.{kept}
use Rattle.lists.proofs.Cases.{never, split_eq}
use Rattle.refusal.specs.Numbers.{number_of}
use Rattle.refusal.specs.declared.Refusal.{Refusal}
use Rattle.packet.specs.Packet.{packet_type_of, format}
use Rattle.packet_header.specs.Header.{type_of, format_of}
use Rattle.reader.specs.Reading.{Decoded, packet, refused, decode_packet}
use Rattle.packet_laws.specs.Refused.{Long, Typed, Fault, ReadingGiven, OneOf}
use Rattle.packet_laws.proofs.Refusals.{refused_given, given_refused}
use Rattle.ccfb_calls.specs.Called.{refused_with}
use Rattle.call_laws.proofs.Numbers.{own_number, not_zero}
use Rattle.datagram.specs.Walk.{packet_at_of, packets_of}
use Rattle.datagram.specs.Datagram.{IsPacket, NoPadding, HoldsPackets, NoDatagram, DatagramFault}
use Rattle.datagram.specs.Feedback.{is_ccfb, octets_are_ccfb, feedback_in, KthFeedback}
use Rattle.datagram.specs.declared.RtcpPacket.{RtcpPacket}
use Rattle.std.specs.Prelude.{Option, Result, Some, None, Ok, Err}
use Rattle.datagram.proofs.Steps.{front_none, step_end, ended, no_packet_lem, bad_datagram_lem}
use Rattle.datagram.proofs.Rules.{held_walked, held_cases, broken_fault, fault_broken, broken_none, none_broken, placed_count}
use Rattle.datagram_count.specs.Count.{count_of}
use Rattle.datagram_reader.specs.Reading.{accepted_as, read_feedback}
use Rattle.ccfb_datagram.specs.Datagrams.{packet_called}
use Rattle.datagram_laws.specs.Refused.{CountGiven, FeedbackGiven, PacketGiven, feedback_numbers}
use Rattle.datagram_laws.proofs.Kth.{Kth, there, past, kth, kth_all, kth_count, read_past, read_kth}
use Rattle.refusal.specs.declared.Refusal.TheVariants.{PacketTooShort, Padded, BadDatagram, NoPacket}
use Rattle.packet_laws.specs.Refused as reading
use Rattle.datagram_laws.specs.Refused as given

-- the header of a CCFB packet has its type and FMT
typed : (t f : ℕ) → is_ccfb t f ≡ true → (t ≡ packet_type_of) × (f ≡ format)
typed t f h =
    split_eq t packet_type_of
    (λ e. split_eq f format (λ g. (e, g)) (λ g. let z = simp (eq-eqb t packet_type_of e, ne_eqb f format g) at h in never (cc)))
    (λ e. let z = simp (ne_eqb t packet_type_of e) at h in never (cc))

-- the reader's refusals of a CCFB packet: its version, type, FMT and length are right
module _ (p : List ℕ) where
  fault_numbers : (at : ℕ) (e : Refusal) → Fault p at e → OneOf (number_of e) feedback_numbers
  fault_numbers at e (reading.header_room h r) = inr (inr (inr (inr (inl refl))))
  fault_numbers at e (reading.too_many_of h m) = inr (inr (inr (inr (inr (inl refl)))))
  fault_numbers at e (reading.metrics_room h f m) = inr (inr (inr (inr (inl refl))))
  fault_numbers at e (reading.filler_set h f m o z) = inr (inr (inr (inr (inr (inr (inl refl))))))

  reading_numbers : (e : Refusal) → IsPacket p → Typed p → ReadingGiven p e → OneOf (number_of e) feedback_numbers
  reading_numbers e i t (reading.ReadingGiven.too_short_of h) = inr (inr (inl refl))
  reading_numbers e i t (reading.bad_version l v) = absurd (v i.version)
  reading_numbers e i t (reading.bad_type l v n) = absurd (n t)
  reading_numbers e i t (reading.bad_length l v n w) = absurd (w i.words)
  reading_numbers e i t (reading.padded l v n w u) = inr (inr (inr (inl refl)))
  reading_numbers e i t (reading.in_block at h w f) = fault_numbers at e f

module _ (s : List ℕ) where
  -- octets are no datagram exactly if there is a fault in them
  pub none_fault : NoDatagram s → DatagramFault s
  none_fault n = broken_fault s (none_broken s n)

  pub fault_none : DatagramFault s → NoDatagram s
  fault_none f = broken_none s (fault_broken s f)

  -- ---- how many CCFB packets

  -- as many as there are among the packets of the datagram, whether or not the reader accepts them
  pub counted : (ps : List (List ℕ)) → HoldsPackets s ps → count_of (packets_of s) ≡ Ok (length (feedback_in ps))
  counted ps h = rw (held_walked s ps h, placed_count 0 ps)

  pub counted_held : (n : ℕ) → count_of (packets_of s) ≡ Ok n → (ps : List (List ℕ)) × (HoldsPackets s ps × (n ≡ length (feedback_in ps)))
  counted_held n e =
      held_cases s (λ ps h. (ps, (h, let z = counted ps h in cc))) (λ b. let z = rw b at e in never (cc))

  -- a refusal is given only if its condition holds
  pub count_refused_given : (e : Refusal) → count_of (packets_of s) ≡ Err e → CountGiven s e
  count_refused_given e r =
      held_cases s (λ ps h. let z = counted ps h in never (cc))
      (λ b. let z = rw b at r in let y : BadDatagram ≡ e = cc in subst (CountGiven s) y (given.CountGiven.bad_datagram (broken_none s b)))

  -- and it is given if it does
  pub count_given_refused : (e : Refusal) → CountGiven s e → count_of (packets_of s) ≡ Err e
  count_given_refused e (given.CountGiven.bad_datagram n) = rw (none_broken s n)

  -- ---- CCFB packet k

  -- a refusal is given only if its condition holds, and none before it
  pub feedback_refused_given : (k : ℕ) (e : Refusal) → read_feedback s k ≡ Err e → FeedbackGiven s k e
  feedback_refused_given k e r =
      held_cases s (λ ps h. by_kth ps h (kth ps k))
      (λ b. let z = rw b at r in let y : BadDatagram ≡ e = cc in subst (FeedbackGiven s k) y (given.FeedbackGiven.bad_datagram (broken_none s b)))
    where
      by_reader : (ps : List (List ℕ)) (h : HoldsPackets s ps) (p : List ℕ) (x : KthFeedback ps k p) (d : Decoded) → decode_packet p ≡ d
          → (b : RtcpPacket) → accepted_as b d ≡ Err e → FeedbackGiven s k e
      by_reader ps h p x (packet q) f b z = never (cc)
      by_reader ps h p x (refused g) f b z =
          let y : g ≡ e = cc in
          given.reader ps p h x (refused_given p e (f ∙ ap refused y))

      by_kth : (ps : List (List ℕ)) → HoldsPackets s ps → Kth ps k → FeedbackGiven s k e
      by_kth ps h (there p x) = by_reader ps h p x (decode_packet p) refl _ (sym (read_kth s ps h k p x) ∙ r)
      by_kth ps h (past l) =
          let z = read_past s ps h k l in
          let y : NoPacket ≡ e = cc in
          subst (FeedbackGiven s k) y (given.no_packet ps h l)

  -- and it is given if it does
  pub feedback_given_refused : (k : ℕ) (e : Refusal) → FeedbackGiven s k e → read_feedback s k ≡ Err e
  feedback_given_refused k e (given.FeedbackGiven.bad_datagram n) = rw (none_broken s n)
  feedback_given_refused k e (given.no_packet ps h l) = read_past s ps h k l
  feedback_given_refused k e (given.reader ps p h x g) = read_kth s ps h k p x ∙ rw (given_refused p e g)

  -- no others than these seven numbers come
  pub feedback_numbers_lem : (k : ℕ) (e : Refusal) → FeedbackGiven s k e → OneOf (number_of e) feedback_numbers
  feedback_numbers_lem k e (given.FeedbackGiven.bad_datagram n) = inl refl
  feedback_numbers_lem k e (given.no_packet ps h l) = inr (inl refl)
  feedback_numbers_lem k e (given.reader ps p h x g) =
      reading_numbers p e (kth_all ps k p x IsPacket h.each) (typed (type_of p) (format_of p) x.ccfb) g

  -- a last CCFB packet with the padding flag is counted, and is refused with 25
  module _ (ps : List (List ℕ)) (p : List ℕ) (held : HoldsPackets s (ps ++ p ∷ [])) (is : octets_are_ccfb p ≡ true) where
    last_kth : KthFeedback (ps ++ p ∷ []) (length (feedback_in ps)) p
    last_kth = record { before = ps; after = []; order = refl; ccfb = is; count = refl }

    last_refused : (e : Refusal) → ReadingGiven p e → read_feedback s (length (feedback_in ps)) ≡ Err e
    last_refused e g = feedback_given_refused (length (feedback_in ps)) e (given.reader (ps ++ p ∷ []) p held last_kth g)

    last_counted : count_of (packets_of s) ≡ Ok (length (feedback_in ps) + 1)
    unfolding kept last_kth
    last_counted = counted (ps ++ p ∷ []) held ∙ ap Ok (kth_count (ps ++ p ∷ []) (length (feedback_in ps)) p last_kth)

    pub padded_last : Long p → (NoPadding p → ⊥)
        → (read_feedback s (length (feedback_in ps)) ≡ Err Padded) × (count_of (packets_of s) ≡ Ok (length (feedback_in ps) + 1))
    padded_last l u =
        let i = kth_all (ps ++ p ∷ []) (length (feedback_in ps)) p last_kth IsPacket held.each in
        (last_refused Padded (reading.padded l i.version (typed (type_of p) (format_of p) is) i.words u), last_counted)

    -- with fewer than 12 octets it is refused with 21, whatever its padding flag
    pub short_last : (Long p → ⊥)
        → (read_feedback s (length (feedback_in ps)) ≡ Err PacketTooShort) × (count_of (packets_of s) ≡ Ok (length (feedback_in ps) + 1))
    short_last l = (last_refused PacketTooShort (reading.ReadingGiven.too_short_of l), last_counted)

  -- ---- the packet at an offset; `before` stood behind the pointers

  module _ (at : ℕ) (before : List ℕ) where
    -- a refusal's number is answered only if its condition holds
    pub packet_refused_given : (e : Refusal) → (packet_called (packet_at_of s at) before).answer ≡ number_of e → PacketGiven s at e
    packet_refused_given e r = by_step (packet_at_of s at) refl r
      where
        by_step : (k : Result (Option RtcpPacket) Refusal) → packet_at_of s at ≡ k → (packet_called k before).answer ≡ number_of e → PacketGiven s at e
        by_step (Ok (Some p)) f h = not_zero e (sym h)
        by_step (Ok None) f h = subst (PacketGiven s at) (own_number NoPacket e h) (given.at_the_end (ended s at f))
        by_step (Err x) f h =
            subst (PacketGiven s at) (sym (bad_datagram_lem s at x f) ∙ own_number x e h) (given.PacketGiven.bad_datagram (no_packet_lem s at x f))

    -- and it is answered if it does; nothing is written then
    pub packet_given_refused : (e : Refusal) → PacketGiven s at e → packet_called (packet_at_of s at) before ≡ refused_with e before
    unfolding packet_at_of
    packet_given_refused e (given.PacketGiven.bad_datagram n) = rw (← front_none (drop at s) at n)
    packet_given_refused e (given.at_the_end l) = rw (← step_end s at l)
