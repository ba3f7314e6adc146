-- The packet that is found is CCFB packet k, at its place, and packet k is found if the reader
-- accepts it. Assumes nothing.
use Prim.Native.Nat.{ℕ}
use mathlib.Core.Path.{◌≡◌, refl, sym, ap, ◌∙◌}
use mathlib.Core.List.{List, [], ◌∷◌, flatten}
use native.Mathlib.Omega.{arith}
use lib.ListN.{length}
use Rattle.lists.proofs.Cases.{never}
use Rattle.refusal.specs.Numbers.{number_of}
use Rattle.refusal.specs.declared.Refusal.{Refusal}
use Rattle.packet.specs.Packet.{Packet}
use Rattle.reader.specs.Reading.{Decoded, packet, refused, decode_packet}
use Rattle.ccfb_calls.specs.Called.{called}
use Rattle.call_laws.proofs.Calls.{answers, numbers}
use Rattle.datagram.specs.Datagram.{HoldsPackets, placed_at}
use Rattle.datagram.specs.Feedback.{KthFeedback}
use Rattle.datagram.specs.declared.RtcpPacket.{RtcpPacket}
use Rattle.datagram_reader.specs.Reading.{accepted_as, read_feedback, feedback_part, feedback_refusal}
use Rattle.std.specs.Prelude.{Result, Ok, Err}
use Rattle.ccfb_datagram.specs.Datagrams.{feedback_called}
use Rattle.datagram.proofs.Rules.{held_cases}
use Rattle.datagram_laws.specs.Found.{FoundKth, ReadsAs, PacketPlaced}
use Rattle.datagram_laws.proofs.Kth.{Kth, there, past, kth, kth_octets, kth_within, read_past, read_kth}

module _ (s : List ℕ) (k : ℕ) where
  -- packet k is found, at its place, if the reader accepts it
  pub found_feedback : (ps : List (List ℕ)) (p : List ℕ) (q : Packet) → HoldsPackets s ps → (x : KthFeedback ps k p) → decode_packet p ≡ packet q
      → read_feedback s k ≡ Ok (placed_at (length (flatten x.before)) p)
  found_feedback ps p q h x d = read_kth s ps h k p x ∙ rw d

  -- and what is found is packet k
  pub feedback_found : (b : RtcpPacket) → read_feedback s k ≡ Ok b → FoundKth s k b
  feedback_found b r = held_cases s (λ ps h. by_kth ps h (kth ps k)) (λ e. let z = rw e at r in never (cc))
    where
      by_reader : (ps : List (List ℕ)) → HoldsPackets s ps → (p : List ℕ) (x : KthFeedback ps k p) (d : Decoded) → decode_packet p ≡ d
          → accepted_as (placed_at (length (flatten x.before)) p) d ≡ Ok b → FoundKth s k b
      by_reader ps h p x (packet q) f z =
          let place : b ≡ placed_at (length (flatten x.before)) p = cc in
          record {
            packets = ps;
            octets = p;
            held = h;
            kth = x;
            place = place;
            within = rw place (kth_within s ps h k p x);
            stands = rw place (kth_octets s ps h k p x);
            reading = q;
            accepted = f;
          }
      by_reader ps h p x (refused e) f z = never (cc)

      by_kth : (ps : List (List ℕ)) → HoldsPackets s ps → Kth ps k → FoundKth s k b
      by_kth ps h (there p x) = by_reader ps h p x (decode_packet p) refl (sym (read_kth s ps h k p x) ∙ r)
      by_kth ps h (past l) = let z = read_past s ps h k l in never (cc)

  module _ (b : RtcpPacket) (f : FoundKth s k b) where
    pub kth_found : read_feedback s k ≡ Ok b
    kth_found = found_feedback f.packets f.octets f.reading f.held f.kth f.accepted ∙ ap Ok (sym f.place)

    -- the part is the packet's octets; the reader answers of it as of the packet alone
    pub part_found : (feedback_part (read_feedback s k) s ≡ f.octets) × ReadsAs (feedback_part (read_feedback s k) s) f.octets
    part_found =
        rw (kth_found, f.stands) (refl, record { whole = refl; block = λ j. refl; metrics = λ j. refl; metric = λ j i. refl })

  -- a refused call gives an empty part, and the refusal's number
  pub part_refused : (e : Refusal) → read_feedback s k ≡ Err e
      → (feedback_part (read_feedback s k) s ≡ []) × (feedback_refusal (read_feedback s k) ≡ number_of e)
  part_refused e r = rw r (refl, refl)

  -- ---- what C is given

  pub packet_placed : (given at size : ℕ) → feedback_called (read_feedback s k) ≡ called given (at ∷ size ∷ []) → PacketPlaced s k given at size
  packet_placed given at size h = by_answer (read_feedback s k) refl h
    where
      by_answer : (a : Result RtcpPacket Refusal) → read_feedback s k ≡ a → feedback_called a ≡ called given (at ∷ size ∷ []) → PacketPlaced s k given at size
      by_answer (Ok b) f h =
          let found = feedback_found b f in
          let n : given ≡ 0 = sym (answers h) in
          let z = numbers h in
          let a : at ≡ b.at = cc in
          let l : size ≡ b.size = cc in
          record {
            part = rw (a, l, f);
            octets = rw (f, l) (ap length found.stands ∙ sym (ap (λ (x : RtcpPacket). x.size) found.place));
            within = rw (a, l) found.within;
            refusal = rw f n;
            refused = λ e g. never (cc);
          }
      by_answer (Err e) f h =
          let n : given ≡ number_of e = sym (answers h) in
          let z = numbers h in
          let a : at ≡ 0 = cc in
          let l : size ≡ 0 = cc in
          record {
            part = rw (a, l, f);
            octets = rw (l, f);
            within = omega arith;
            refusal = rw f n;
            refused = λ x g. let y : e ≡ x = cc in (n ∙ ap number_of y, a, l, rw f);
          }
