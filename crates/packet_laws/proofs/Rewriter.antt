-- The rewriter's laws: a reader gets the same answers from its output; rule "When nothing changes"; and a second pass
-- changes nothing more. Assumes nothing.
use Prim.Native.Nat.{ℕ, zero, suc, ◌+◌, ◌<◌, ◌≤◌, ◌^◌}
use mathlib.Core.Path.{◌≡◌, refl, sym, ap, ◌∙◌}
use mathlib.Core.List.{List, [], ◌∷◌, ◌++◌, map}
use native.Mathlib.Omega.{arith}
use native.Mathlib.Nat.{zero-add}
use borrow.Author.Tests.{lt-ltb, le-ltb}
use lib.ListN.{length, get_or, take, drop, length-map}
use lib.Seq.{sets, sets-eq, length-sets, take_at, drop_at}
use Rattle.lists.specs.All.{All}
use Rattle.lists.proofs.Cases.{never, split_le}
use Rattle.octets.specs.Output.{OutputAfter, output_after}
use Rattle.octets.specs.Octets.{Octets}
use Rattle.metric.specs.Metric.{received_bit, decode_of}
use Rattle.packet.specs.Packet.{Block, Packet, encode_packet, FitBlock, Fit, report_counts}
use Rattle.packet.specs.Sizes.{block_octets, packet_octets}
use Rattle.packet.proofs.Sizes.{length_packet}
use Rattle.walk.specs.Walk.{walked, walk_of}
use Rattle.reader.specs.Reading.{Decoded, packet, refused, decode_packet}
use Rattle.metric_rewriter.specs.Metrics.{rewrite_metric}
use Rattle.rewriter.specs.Rewrite.{rewrite_block, rewrite_packet, Clean, rewrite_of}
use Rattle.std.specs.Prelude.{Result, Ok, Err}
use Rattle.refusal.specs.declared.Refusal.{Refusal}
use Rattle.rewriter.proofs.Output.{rewrite_octets}
use Rattle.packet_laws.specs.Asked.{laid, packet_metric}
use Rattle.packet_laws.specs.Rewritten.{SameAnswers, Rewritten}
use Rattle.packet_laws.proofs.ReadBack.{read_back, walk_back, encode_different}
use Rattle.packet_laws.proofs.WrittenBack.{written_back}
use Rattle.packet_laws.proofs.Asked.{accepted_octets, metric_asked_lem}
use Rattle.refusal.specs.declared.Refusal.TheVariants.{OutputTooShort}

module _ {A : Type 0} (f : A → A) where
  map_twice : ((a : A) → f (f a) ≡ f a) → (l : List A) → map f (map f l) ≡ map f l
  map_twice h [] = refl
  map_twice h (a ∷ l) = rw (h a, map_twice h l)

  map_same : {P : A → Type 0} → ((a : A) → P a → f a ≡ a) → (l : List A) → All P l → map f l ≡ l
  map_same h [] p = refl
  map_same h (a ∷ l) p = rw (h a p.0, map_same h l p.1)

  map_all : {P : A → Type 0} → ((a : A) → f a ≡ a → P a) → (l : List A) → map f l ≡ l → All P l
  map_all h [] e = tt
  map_all h (a ∷ l) e = (h a (cc), map_all h l (cc))

  all_mapped : {P : A → Type 0} → ((a : A) → P a → P (f a)) → (l : List A) → All P l → All P (map f l)
  all_mapped h [] p = tt
  all_mapped h (a ∷ l) p = (h a p.0, all_mapped h l p.1)

-- ---- a metric

metric_twice : (m : ℕ) → rewrite_metric (rewrite_metric m) ≡ rewrite_metric m
metric_twice m = split_le received_bit m (λ h. simp (le-ltb m received_bit h)) (λ h. simp (lt-ltb m received_bit h))

-- a rewritten metric is read as the same case
pub same_case : (m : ℕ) → decode_of (rewrite_metric m) ≡ decode_of m
unfolding decode_of
same_case m = split_le received_bit m (λ h. simp (le-ltb m received_bit h)) (λ h. simp (lt-ltb m received_bit h))

metric_same : (m : ℕ) → (m < received_bit → m ≡ 0) → rewrite_metric m ≡ m
metric_same m t = split_le received_bit m (λ h. simp (le-ltb m received_bit h)) (λ h. simp (lt-ltb m received_bit h) (sym (t h)))

same_metric : (m : ℕ) → rewrite_metric m ≡ m → m < received_bit → m ≡ 0
same_metric m e h = sym e ∙ simp (lt-ltb m received_bit h)

fit_metric : (m : ℕ) → m < 2 ^ 16 → rewrite_metric m < 2 ^ 16
fit_metric m h = split_le received_bit m (λ g. simp (le-ltb m received_bit g) h) (λ g. simp (lt-ltb m received_bit g) (omega arith))

-- ---- a packet

abbrev block_with : Block → List ℕ → Block
block_with b ms = record { ssrc = b.ssrc; begin = b.begin; metrics = ms }

abbrev packet_with : Packet → List Block → Packet
packet_with p bs = record { sender = p.sender; rts = p.rts; blocks = bs }

packet_twice : (p : Packet) → rewrite_packet (rewrite_packet p) ≡ rewrite_packet p
packet_twice p =
    ap (packet_with p) (map_twice rewrite_block (λ b. ap (block_with b) (map_twice rewrite_metric metric_twice b.metrics)) p.blocks)

-- a packet stays as it is exactly if each metric with R = 0 is 0x0000
pub rewrite_same : (p : Packet) → Clean p → rewrite_packet p ≡ p
rewrite_same p t =
    ap (packet_with p) (map_same rewrite_block (λ b h. ap (block_with b) (map_same rewrite_metric metric_same b.metrics h)) p.blocks t)

pub same_rewrite : (p : Packet) → rewrite_packet p ≡ p → Clean p
same_rewrite p e =
    map_all rewrite_block (λ b f. map_all rewrite_metric same_metric b.metrics (ap (λ (x : Block). x.metrics) f)) p.blocks
    (ap (λ (x : Packet). x.blocks) e)

fit_block : (b : Block) → FitBlock b → FitBlock (rewrite_block b)
fit_block b h = record {
  ssrc = h.ssrc;
  begin = h.begin;
  few = omega (arith, length-map b.metrics rewrite_metric, h.few);
  metrics = all_mapped rewrite_metric fit_metric b.metrics h.metrics;
}

fit_rewrite : (p : Packet) → Fit p → Fit (rewrite_packet p)
fit_rewrite p h = record {
  sender = h.sender;
  rts = h.rts;
  blocks = all_mapped rewrite_block fit_block p.blocks h.blocks;
  words = omega (arith, rewrite_octets p, h.words);
}

-- ---- its answers

laid_rewrite : (at : ℕ) (bs : List Block) → laid at (map rewrite_block bs) ≡ laid at bs
unfolding laid
laid_rewrite at [] = refl
laid_rewrite at (b ∷ bs) = rw (length-map b.metrics rewrite_metric, laid_rewrite (at + block_octets (length b.metrics)) bs)

get_d_rewrite : (ms : List ℕ) (j : ℕ) → get_or (map rewrite_metric ms) j 0 ≡ rewrite_metric (get_or ms j 0)
get_d_rewrite [] j = refl
get_d_rewrite (m ∷ ms) zero = refl
get_d_rewrite (m ∷ ms) (suc j) = get_d_rewrite ms j

metric_rewrite : (bs : List Block) (k j : ℕ) → packet_metric (map rewrite_block bs) k j ≡ packet_metric bs k j
metric_rewrite [] k j = refl
metric_rewrite (b ∷ bs) zero j = rw (length-map b.metrics rewrite_metric, get_d_rewrite b.metrics j, same_case (get_or b.metrics j 0))
metric_rewrite (b ∷ bs) (suc k) j = metric_rewrite bs k j

module _ (s : List ℕ) (octets : Octets s) where
  module _ (p : Packet) (e : decode_packet s ≡ packet p) where
    -- the octets that the rewriter writes
    abbrev written : List ℕ
    written = encode_packet (rewrite_packet p)

    output_read : decode_packet written ≡ packet (rewrite_packet p)
    output_read = read_back (rewrite_packet p) (fit_rewrite p (written_back s octets p e).fit)

    output_walk : walk_of written ≡ walk_of s
    output_walk =
        let w = written_back s octets p e in
        walk_back (rewrite_packet p) (fit_rewrite p w.fit) ∙ ap walked (laid_rewrite 8 p.blocks) ∙ sym (ap walk_of w.octets ∙ walk_back p w.fit)

    output_same : SameAnswers s written
    output_same = record {
      read = rw (output_read, e, length-map p.blocks rewrite_block);
      block = λ k. rw output_walk;
      metric = λ k j. metric_asked_lem written (rewrite_packet p) output_read k j ∙ metric_rewrite p.blocks k j ∙ sym (metric_asked_lem s p e k j);
    }

    output_length : length written ≡ length s
    output_length = length_packet (rewrite_packet p) ∙ rewrite_octets p ∙ accepted_octets s p e

    output_equal : Clean p → written ≡ s
    output_equal t = ap encode_packet (rewrite_same p t) ∙ sym (written_back s octets p e).octets

    equal_output : written ≡ s → Clean p
    equal_output h =
        let w = written_back s octets p e in
        same_rewrite p (encode_different (rewrite_packet p) p (fit_rewrite p w.fit) w.fit (h ∙ w.octets))

  -- ---- a call that wrote n octets

  module _ (entry exit : List ℕ) (n : ℕ) (call : rewrite_of (decode_packet s) entry ≡ output_after (Ok n) exit) where
    -- what it wrote
    record Output (p : Packet) : Type 0 where
      is : decode_packet s ≡ packet p
      size : n ≡ length s
      first : take n exit ≡ encode_packet (rewrite_packet p)
      others : drop n exit ≡ drop n entry
      long : length exit ≡ length entry

    output_of : (p : Packet) → decode_packet s ≡ packet p → Output p
    output_of p e =
        let z : rewrite_of (packet p) entry ≡ output_after (Ok n) exit = rw e at call in
        let y = rw (accepted_octets s p e) at z in
        split_le (length s) (length entry)
        (λ l. let x : output_after (Ok (length s)) (sets entry 0 (written p e)) ≡ output_after (Ok n) exit =
        simp (le-ltb (length entry) (length s) l) at y in
        let wrote : Ok (length s) ≡ Ok n = ap (λ (o : OutputAfter (Result ℕ Refusal)). o.answer) x in
        let size : length s ≡ n = cc in
        let content : sets entry 0 (written p e) ≡ exit = ap (λ (o : OutputAfter (Result ℕ Refusal)). o.output) x in
        let lw : length (written p e) ≡ n = output_length p e ∙ size in
        let all : sets entry 0 (written p e) ≡ written p e ++ drop (0 + length (written p e)) entry =
        sets-eq (written p e) entry 0 (omega (arith, output_length p e)) in
        let parts : exit ≡ written p e ++ drop n entry = sym content ∙ all ∙ rw (zero-add, lw) in
        record {
          is = e;
          size = sym size;
          first = rw parts (take_at (written p e) (drop n entry) n lw);
          others = rw parts (drop_at (written p e) (drop n entry) n lw);
          long = ap length (sym content) ∙ length-sets entry 0 (written p e);
        })
        (λ l. let x : Err OutputTooShort ≡ Ok n = ap (λ (o : OutputAfter (Result ℕ Refusal)). o.answer) (simp (lt-ltb (length entry) (length s) l) at y) in
        never (cc))

    output : {P : Type 0} → ((p : Packet) → Output p → P) → P
    output {P} then = by_decoded (decode_packet s) refl call
      where
        by_decoded : (d : Decoded) → decode_packet s ≡ d → rewrite_of d entry ≡ output_after (Ok n) exit → P
        by_decoded (packet p) e c = then p (output_of p e)
        by_decoded (refused x) e c = let z : Err x ≡ Ok n = ap (λ (o : OutputAfter (Result ℕ Refusal)). o.answer) c in never (cc)

    -- the same is read in what was written, and octets past it stay
    pub rewritten : Rewritten s entry exit n
    rewritten =
        output (λ p o.
        record { size = o.size; same = rw o.first (output_same p o.is); others = o.others; long = o.long })

    -- rule "When nothing changes": it equals the input exactly if each metric with R = 0 was 0x0000
    pub rewrite_equal : (p : Packet) → decode_packet s ≡ packet p → Clean p → take n exit ≡ s
    rewrite_equal p e t = (output_of p e).first ∙ output_equal p e t

    pub equal_rewrite : (p : Packet) → decode_packet s ≡ packet p → take n exit ≡ s → Clean p
    equal_rewrite p e h = equal_output p e (sym (output_of p e).first ∙ h)

    -- a second pass changes nothing more: rewriting what was written writes just that
    pub twice_once : (again : List ℕ) → n ≤ length again → rewrite_of (decode_packet (take n exit)) again ≡ output_after (Ok n) (sets again 0 (take n exit))
    twice_once again room =
        output (λ p o.
        let size : packet_octets (report_counts (rewrite_packet p).blocks) ≡ n = rewrite_octets p ∙ accepted_octets s p o.is ∙ sym o.size in
        rw (o.first, output_read p o.is, size, packet_twice p) (simp (le-ltb (length again) n room)))
