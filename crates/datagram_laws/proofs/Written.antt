-- Rules: "Datagram", rule "Written packets". What the writer wrote is a datagram, alone and behind
-- other packets, and each written packet is found in it. All follows from the record `Report` of
-- writer_laws. Assumes nothing.
use Prim.Native.Nat.{ℕ, zero, suc, ◌+◌, ◌≤◌, ◌<◌}
use mathlib.Core.Bool.{true}
use mathlib.Core.Path.{◌≡◌, refl, sym, ap, ◌∙◌}
use mathlib.Core.List.{List, [], ◌∷◌, ◌++◌, map, flatten, append_assoc}
use native.Mathlib.Omega.{arith}
use lib.ListN.{length, take, drop, get_or, length-append, length-drop, take-append-drop}
use lib.Seq.{split_at, length-take-le}
use borrow.Author.Tests.{eq-eqb}
use Rattle.lists.specs.All.{All}
use Rattle.lists.proofs.All.{all_map, all_left, all_right, all_join, all_but_last}
use Rattle.lists.proofs.Flatten.{flatten_append}
use Rattle.lists.proofs.Kept.{kept_behind}
use Rattle.lists.proofs.Cases.{never}
use Rattle.octets.specs.Octets.{be16}
use Rattle.cutting.specs.declared.Request.{Request}
use Rattle.packet.specs.Packet.{Packet}
use Rattle.packet_header.specs.Header.{format_of, type_of}
use Rattle.packet_header.proofs.Starts.{SoundHeader}
use Rattle.reader.specs.Reading.{packet, decode_packet}
use Rattle.reader.proofs.Answers.{walked_sound}
use Rattle.packet_laws.proofs.Asked.{accepted}
use Rattle.blocks.specs.Packets.{packets_for}
use Rattle.writer.specs.Written.{written}
use Rattle.writer_laws.specs.Read.{first_octets, walk_lengths, packets_in, InBits, Report}
use Rattle.writer_laws.proofs.Theorems.{report}
use Rattle.ccfb_calls.specs.Called.{called}
use Rattle.call_laws.specs.Part.{octets_at}
use Rattle.datagram.specs.Datagram.{IsPacket, NoPadding, HoldsPackets, placed_at}
use Rattle.datagram.specs.Feedback.{octets_are_ccfb, feedback_in, KthFeedback}
use Rattle.datagram_reader.specs.Reading.{read_feedback}
use Rattle.ccfb_datagram.specs.Datagrams.{feedback_called}
use Rattle.datagram_laws.specs.Written.{Other, behind_front, EndsWritten, written_packet, written_at, CallsFind}
use Rattle.datagram_laws.proofs.Kth.{kth_octets, read_past}
use Rattle.datagram_laws.proofs.Refusals.{counted}
use Rattle.datagram_laws.proofs.Found.{found_feedback}
use Rattle.std.specs.Prelude.{Ok}

-- ---- walking the length fields leaves no octet out

lengths_joined : (most : ℕ) (s : List ℕ) → length s ≤ most → flatten (walk_lengths most s) ≡ s
unfolding flatten walk_lengths
lengths_joined zero [] l = refl
lengths_joined zero (x ∷ s) l = absurd (omega arith)
lengths_joined (suc most) [] l = refl
lengths_joined (suc most) (x ∷ s) l =
    let n : ℕ = first_octets (x ∷ s) in
    ap (λ r. take n (x ∷ s) ++ r) (lengths_joined most (drop n (x ∷ s)) (omega (arith, length-drop n (x ∷ s))))
    ∙ take-append-drop n (x ∷ s)

-- ---- packets that the reader accepts

-- the reader accepts these octets
abbrev Accepted : List ℕ → Type 0
Accepted s = (q : Packet) × (decode_packet s ≡ packet q)

each_accepted : (ps : List (List ℕ)) (qs : List Packet) → map decode_packet ps ≡ map packet qs → All Accepted ps
each_accepted [] qs e = tt
each_accepted (p ∷ ps) [] e = never (cc)
each_accepted (p ∷ ps) (q ∷ qs) e = ((q, cc), each_accepted ps qs (cc))

module _ (p : List ℕ) (a : Accepted p) where
  accepted_header : SoundHeader p
  accepted_header = accepted p a.0 a.1 (λ bs e f. (walked_sound p bs e).0)

  accepted_is : IsPacket p
  accepted_is =
      let h = accepted_header in
      record { header = omega (arith, h.long); version = h.version; words = h.words }

  accepted_feedback : octets_are_ccfb p ≡ true
  accepted_feedback =
      let h = accepted_header in
      simp (eq-eqb (type_of p) 205 h.type, eq-eqb (format_of p) 11 h.format)

-- ---- other packets, and then packets that the reader accepts

module _ (front : List (List ℕ)) (written : List ℕ) (others : All Other front) (each : All Accepted (packets_in written)) where
  held : HoldsPackets (behind_front front written) (front ++ packets_in written)
  held =
      let joined =
      flatten_append front (packets_in written) ∙ ap (λ r. flatten front ++ r) (lengths_joined (length written) written (omega arith)) in
      let is = all_join IsPacket front (packets_in written) (all_map front (λ p o. o.is) others) (all_map (packets_in written) accepted_is each) in
      let unpadded =
      all_join NoPadding front (packets_in written) (all_map front (λ p o. o.unpadded) others)
      (all_map (packets_in written) (λ p a. (accepted_header p a).unpadded) each) in
      record { joined = joined; each = is; padding = all_but_last NoPadding (front ++ packets_in written) unpadded }

  -- the CCFB packets are those behind the packets in front
  feedback : (ps : List (List ℕ)) → All Accepted ps → feedback_in (front ++ ps) ≡ ps
  feedback ps a =
      kept_behind octets_are_ccfb front ps (all_map front (λ p o. o.other) others) (all_map ps accepted_feedback a)

  -- a written packet
  module _ (before : List (List ℕ)) (p : List ℕ) (after : List (List ℕ)) (split : packets_in written ≡ before ++ p ∷ after) where
    all : All Accepted (before ++ p ∷ after)
    all = rw split at each

    accepted_here : Accepted p
    accepted_here = (all_right Accepted before (p ∷ after) all).0

    kth_written : KthFeedback (front ++ packets_in written) (length before) p
    kth_written =
        record {
          before = front ++ before;
          after = after;
          order = ap (λ (r : List (List ℕ)). front ++ r) split ∙ sym (append_assoc front before (p ∷ after));
          ccfb = accepted_feedback p accepted_here;
          count = ap length (feedback before (all_left Accepted before (p ∷ after) all));
        }

    place : length (flatten (front ++ before)) ≡ length (flatten front) + length (flatten before)
    place = ap length (flatten_append front before) ∙ length-append (flatten front) (flatten before)

    found : read_feedback (behind_front front written) (length before) ≡ Ok (placed_at (length (flatten front) + length (flatten before)) p)
    unfolding kth_written
    found =
        found_feedback (behind_front front written) (length before) (front ++ packets_in written) p accepted_here.0 held kth_written accepted_here.1
        ∙ ap (λ (at : ℕ). Ok (placed_at at p)) place

    stands : octets_at (behind_front front written) (length (flatten front) + length (flatten before)) (length p) ≡ p
    unfolding kth_written
    stands = rw (← place) (kth_octets (behind_front front written) (front ++ packets_in written) held (length before) p kth_written)

-- ---- what the writer wrote: p packets of o octets, in an output that was `entry` and is `exit`

module _ (places cells : List ℕ) (sender rts limit : ℕ) (rs : List Request) (entry exit : List ℕ) (p o : ℕ)
    (wrote : Report places cells sender rts limit rs entry exit p o) (front : List (List ℕ)) (others : All Other front) where
  -- the octets written
  abbrev reported : List ℕ
  reported = take o exit

  accepts : All Accepted (packets_in reported)
  accepts = each_accepted (packets_in reported) (packets_for places cells sender rts limit rs) wrote.accepts

  size : length (feedback_in (front ++ packets_in reported)) ≡ p
  size = ap length (feedback front reported others accepts (packets_in reported) accepts) ∙ wrote.count

  pub ends_written : EndsWritten front reported p
  ends_written =
      let holds = held front reported others accepts in
      record {
        held = holds;
        feedback = feedback front reported others accepts (packets_in reported) accepts;
        count = counted (behind_front front reported) (front ++ packets_in reported) holds ∙ ap Ok size;
        found = found front reported others accepts;
        past = λ k l. read_past (behind_front front reported) (front ++ packets_in reported) holds k (omega (arith, size));
      }

  module _ (k : ℕ) (l : k < p) where
    abbrev ps : List (List ℕ)
    ps = packets_in reported

    split : ps ≡ take k ps ++ get_or ps k [] ∷ drop (suc k) ps
    split = split_at ps k [] (omega (arith, wrote.count))

    call : feedback_called (read_feedback (behind_front front reported) k)
        ≡ called 0 (written_at front reported k ∷ length (written_packet reported k) ∷ [])
    call =
        let e : length (take k ps) ≡ k = length-take-le k ps (omega (arith, wrote.count)) in
        ap (λ (i : ℕ). feedback_called (read_feedback (behind_front front reported) i)) (sym e)
        ∙ ap feedback_called (ends_written.found (take k ps) (get_or ps k []) (drop (suc k) ps) split)

    octets : octets_at (behind_front front reported) (written_at front reported k) (length (written_packet reported k)) ≡ written_packet reported k
    octets = stands front reported others accepts (take k ps) (get_or ps k []) (drop (suc k) ps) split

  pub calls_find : CallsFind front reported p
  calls_find =
      record {
        count = λ before. rw ends_written.count;
        each = call;
        octets = octets;
        past = λ k l. rw (ends_written.past k l);
      }

-- ---- every input that the writer accepts: n requests `rs`, any store content, any output

module _ (places cells : List ℕ) (sender rts limit n : ℕ) (rs : List Request) (out : List ℕ) where
  abbrev output : List ℕ
  output = (written places cells sender rts limit n rs out).output

  pub written_found : InBits sender rts rs → (p o : ℕ) → (written places cells sender rts limit n rs out).answer ≡ Ok (record { packets = p; octets = o })
      → (front : List (List ℕ)) → All Other front
      → EndsWritten front (take o output) p × CallsFind front (take o output) p
  written_found bits p o accepted front others =
      let r = report places cells sender rts limit n rs out bits p o accepted in (
        ends_written places cells sender rts limit rs out output p o r front others,
        calls_find places cells sender rts limit rs out output p o r front others,
      )

-- with no packet in front the datagram is what was written
pub alone : (written : List ℕ) → behind_front [] written ≡ written
unfolding flatten
alone written = refl

-- a packet that may stand in front: an empty receiver report of the sender 0xF1
pub receiver_report : Other (128 ∷ 201 ∷ 0 ∷ 1 ∷ 0 ∷ 0 ∷ 0 ∷ 241 ∷ [])
unfolding be16
receiver_report = record { is = record { header = omega arith; version = refl; words = refl }; unpadded = refl; other = refl }
