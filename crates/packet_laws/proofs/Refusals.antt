-- Each refusal is given exactly if its condition holds and none before it. Assumes nothing.
use Prim.Native.Nat.{ℕ, zero, suc, ◌+◌, ◌-◌, ◌*◌, ◌%◌, ◌<◌, ◌≤◌}
use mathlib.Core.Logic.{inl, inr}
use mathlib.Core.Path.{◌≡◌, refl, sym, ap, subst, ◌∙◌}
use mathlib.Core.List.{List, [], ◌∷◌}
use native.Mathlib.Omega.{arith}
use borrow.Author.Tests.{lt-leb, le-leb, lt-ltb, le-ltb, eq-eqb, ne_eqb}
use lib.ListN.{length, length-map}
use Rattle.lists.proofs.Cases.{never, split_le, split_eq}
use Rattle.refusal.specs.Numbers.{number_of}
use Rattle.refusal.specs.declared.Refusal.{Refusal}
use Rattle.octets.specs.Octets.{be16}
use Rattle.octets.specs.Output.{OutputAfter, output_after}
use Rattle.packet.specs.Packet.{Packet}
use Rattle.packet.specs.Sizes.{most_reports, block_octets}
use Rattle.packet.proofs.Sizes.{even_octets, odd_octets}
use Rattle.packet_header.specs.Header.{version_of, padding_of, format_of, type_of, length_of, start_of}
use Rattle.walk.specs.Walk.{rts_at, filler_at, block_here_of, step_at}
use Rattle.walk.specs.Walk.{Walked, walked, stopped, in_front, onward, walk, walk_from, started, walk_of}
use Rattle.walk.specs.declared.ReportBlock.{ReportBlock}
use Rattle.packet_header.specs.declared.Cursor.{Cursor}
use Rattle.std.specs.Prelude.{Option, Result, Some, None, Ok, Err}
use Rattle.packet_header.proofs.Starts.{too_short, bad_version_lem, bad_type_lem, bad_format, bad_length_lem, padded, sound, sound_header}
use Rattle.walk.proofs.Steps.{step_end, step_no_header, step_many, step_overrun, step_filler, step_found, found, next_at, next_room}
use Rattle.walk.proofs.Walks.{walk_block, walk_end, walk_refused, walk_ind}
use Rattle.reports.specs.Reports.{reported_in}
use Rattle.reader.specs.Reading.{Decoded, packet, refused, block_in, packet_in, decoded, decode_packet, read_of}
use Rattle.reader.proofs.Answers.{walked_sound}
use Rattle.block_reader.specs.Blocks.{nth, located, read_block}
use Rattle.metric_reader.specs.Metrics.{metrics_part, reported_of, read_metric}
use Rattle.rewriter.specs.Rewrite.{rewrite_of}
use Rattle.packet_laws.specs.Asked.{metrics_of, packet_metric}
use Rattle.packet_laws.specs.Refused.{Long, Version, Typed, Sound, num_reports_of, metrics_end, SoundBlock, Walks, here, past, Fault}
use Rattle.packet_laws.specs.Refused.{header_room, too_many_of, metrics_room, filler_set, ReadingGiven, BlockGiven, no_block, MetricGiven, no_number, RewritingGiven, OneOf, reader_numbers}
use Rattle.packet_laws.proofs.Asked.{accepted, accepted_octets, metric_asked_lem}
use Rattle.refusal.specs.declared.Refusal.TheVariants.{OutputTooShort, PacketTooShort, BadVersion, BadType, BadLength, Padded}
use Rattle.refusal.specs.declared.Refusal.TheVariants.{RunsIntoRts, TooManyReports, FillerNotZero, NoBlock, NoNumber}
use Rattle.packet.specs.Packet as form
use Rattle.packet_laws.specs.Refused as given

-- blocks and packets are whole words, so the filler has room where the metrics have
room_words : (rts at n : ℕ) → rts % 4 ≡ 0 → at % 4 ≡ 0 → at + 8 + 2 * n ≤ rts → at + block_octets n ≤ rts
room_words rts at n r a h =
    split_eq (n % 2) 0 (λ e. omega (arith, even_octets n e)) (λ e. omega (arith, odd_octets n e))

no_room : (rts at n : ℕ) → rts < at + 8 + 2 * n → rts < at + block_octets n
no_room rts at n h = split_eq (n % 2) 0 (λ e. omega (arith, even_octets n e)) (λ e. omega (arith, odd_octets n e))

next_words : (at n : ℕ) → at % 4 ≡ 0 → (at + block_octets n) % 4 ≡ 0
next_words at n a = omega arith

rts_words : (w l : ℕ) → 4 * (w + 1) ≡ l → (l - 4) % 4 ≡ 0
rts_words w l e = omega arith

module _ (s : List ℕ) where
  -- ---- a block

  filler_zero : (at n : ℕ) → (n % 2 ≡ 1 → be16 s (at + 8 + 2 * n) ≡ 0) → filler_at s at n ≡ 0
  unfolding filler_at
  filler_zero at n f =
      split_eq (n % 2) 0 (λ e. simp (eq-eqb (n % 2) 0 e)) (λ e. simp (ne_eqb (n % 2) 0 e) (f (omega arith)))

  filler_odd : (at n : ℕ) → n % 2 ≡ 1 → filler_at s at n ≡ be16 s (at + 8 + 2 * n)
  unfolding filler_at
  filler_odd at n o = simp (ne_eqb (n % 2) 0 (λ e. omega arith))

  filler_set_lem : (at n : ℕ) → (filler_at s at n ≡ 0 → ⊥) → (n % 2 ≡ 1) × (be16 s (at + 8 + 2 * n) ≡ 0 → ⊥)
  filler_set_lem at n f =
      split_eq (n % 2) 1 (λ o. (o, λ z. f (filler_odd at n o ∙ z))) (λ o. absurd (f (filler_zero at n (λ e. absurd (o e)))))

  module _ (at : ℕ) (q : rts_at s % 4 ≡ 0) (a : at % 4 ≡ 0) where
    sound_step : SoundBlock s at → Ok (Some ((block_here_of s at (num_reports_of s at)), (record { at = at + block_octets (num_reports_of s at) }))) ≡ step_at s at
    sound_step b =
        let n = num_reports_of s at in
        step_found s at n (omega (arith, b.header)) refl b.few
        (omega (arith, b.header, room_words (rts_at s) at n q a b.metrics)) (filler_zero at n b.filler)

    step_sound : (b : ReportBlock) (next : Cursor) → step_at s at ≡ Ok (Some (b, next)) → SoundBlock s at
    step_sound b next e =
        let f = found s at b next e in
        let n = num_reports_of s at in
        record {
          header = omega (arith, f.room);
          few = f.few;
          metrics = omega (arith, f.room);
          filler = λ o. sym (filler_odd at n o) ∙ f.filler;
        }

    fault_step : (e : Refusal) → Fault s at e → Err e ≡ step_at s at
    fault_step e (header_room h r) = step_no_header s at h (omega arith)
    fault_step e (too_many_of h m) = step_many s at (num_reports_of s at) (omega arith) refl m
    fault_step e (metrics_room h f m) =
        step_overrun s at (num_reports_of s at) (omega arith) refl f (omega (arith, no_room (rts_at s) at (num_reports_of s at) m))
    fault_step e (filler_set h f m o z) =
        let n = num_reports_of s at in
        step_filler s at n (omega arith) refl f (omega (arith, room_words (rts_at s) at n q a m)) (λ y. z (sym (filler_odd at n o) ∙ y))

    step_fault : (e : Refusal) → step_at s at ≡ Err e → Fault s at e
    step_fault e f =
        split_le (rts_at s) at (λ h. let l = step_end s at h in never (cc))
        (λ h. split_le 8 (rts_at s - at) (counting h)
        (λ r. let l = step_no_header s at h r in let z : RunsIntoRts ≡ e = cc in subst (Fault s at) z (header_room h (omega arith))))
      where
        counting : at < rts_at s → 8 ≤ rts_at s - at → Fault s at e
        counting h r =
            let n = num_reports_of s at in
            split_le n most_reports
            (λ g. split_le (metrics_end s at) (rts_at s)
            (λ m. split_eq (filler_at s at n) 0
            (λ z. let l = step_found s at n r refl g (omega (arith, room_words (rts_at s) at n q a m)) z in never (cc))
            (λ z. let l = step_filler s at n r refl g (omega (arith, room_words (rts_at s) at n q a m)) z in
            let y : FillerNotZero ≡ e = cc in
            let x = filler_set_lem at n z in
            subst (Fault s at) y (filler_set (omega arith) g m x.0 x.1)))
            (λ m. let l = step_overrun s at n r refl g (omega (arith, no_room (rts_at s) at n m)) in
            let y : RunsIntoRts ≡ e = cc in
            subst (Fault s at) y (metrics_room (omega arith) g m)))
            (λ g. let l = step_many s at n r refl g in let y : TooManyReports ≡ e = cc in subst (Fault s at) y (too_many_of (omega arith) g))

  -- ---- the walk

  module _ (q : rts_at s % 4 ≡ 0) where
    walks_stopped : (at to : ℕ) (e : Refusal) → at % 4 ≡ 0 → Walks s at to → Fault s to e → walk_from s at ≡ stopped e
    walks_stopped at to e a here f = walk_refused s at _ (fault_step at q a e f) e refl
    walks_stopped at to e a (past b w) f =
        let n = num_reports_of s at in
        walk_block s at _ (sound_step at q a b) _ _ refl ∙ rw (walks_stopped (at + block_octets n) to e (next_words at n a) w f)

    record Stop (at : ℕ) (e : Refusal) : Type 0 where
      to : ℕ
      reached : Walks s at to
      fault : Fault s to e

    stopped_walks : (n at : ℕ) (e : Refusal) → at % 4 ≡ 0 → walk n s at ≡ stopped e → Stop at e
    unfolding walk
    stopped_walks zero at e a h = never (cc)
    stopped_walks (suc n) at e a h =
        by_step (step_at s at) refl h (λ g. stopped_walks n (at + block_octets (num_reports_of s at)) e (next_words at (num_reports_of s at) a) g)
      where
        by_walk : (b : ReportBlock) (next : Cursor) (w : Walked) → step_at s at ≡ Ok (Some (b, next)) → walk n s next.at ≡ w → in_front b w ≡ stopped e
            → (walk n s (at + block_octets (num_reports_of s at)) ≡ stopped e → Stop (at + block_octets (num_reports_of s at)) e) → Stop at e
        by_walk b next (walked r) f g h rest = never (cc)
        by_walk b next (stopped x) f g h rest =
            let z : walk n s next.at ≡ stopped e = cc in
            let r = rest (rw (next_at s at b next f) at z) in
            record { to = r.to; reached = past (step_sound at q a b next f) r.reached; fault = r.fault }

        by_step : (c : Result (Option (ReportBlock × Cursor)) Refusal) → step_at s at ≡ c → onward c (λ i. walk n s i) ≡ stopped e
            → (walk n s (at + block_octets (num_reports_of s at)) ≡ stopped e → Stop (at + block_octets (num_reports_of s at)) e) → Stop at e
        by_step (Ok (Some (b, next))) f h rest = by_walk b next (walk n s next.at) f refl h rest
        by_step (Ok None) f h rest = never (cc)
        by_step (Err x) f h rest = let z : x ≡ e = cc in record { to = at; reached = here; fault = step_fault at q a e (f ∙ ap Err z) }

  -- ---- the reader

  start_given : (e : Refusal) → start_of s ≡ Err e → ReadingGiven s e
  start_given e h =
      split_le 12 (length s)
      (λ l. split_eq (version_of s) 2
      (λ v. split_eq (type_of s) 205
      (λ t. split_eq (format_of s) 11
      (λ f. split_eq (length_of s) (length s)
      (λ w. split_eq (padding_of s) 0
      (λ u. let x = sound s l v t f w u in never (cc))
      (λ u. let x = padded s l v t f w u in let z : Padded ≡ e = cc in subst (ReadingGiven s) z (given.padded l v (t, f) w u)))
      (λ w. let x = bad_length_lem s l v t f w in let z : BadLength ≡ e = cc in subst (ReadingGiven s) z (given.bad_length l v (t, f) w)))
      (λ f. let x = bad_format s l v t f in let z : BadType ≡ e = cc in subst (ReadingGiven s) z (given.bad_type l v (λ g. f g.1))))
      (λ t. let x = bad_type_lem s l v t in let z : BadType ≡ e = cc in subst (ReadingGiven s) z (given.bad_type l v (λ g. t g.0))))
      (λ v. let x = bad_version_lem s l v in let z : BadVersion ≡ e = cc in subst (ReadingGiven s) z (given.bad_version l v)))
      (λ l. let x = too_short s l in let z : PacketTooShort ≡ e = cc in subst (ReadingGiven s) z (given.ReadingGiven.too_short_of (λ g. omega arith)))

  walk_given : (e : Refusal) → walk_of s ≡ stopped e → ReadingGiven s e
  unfolding walk_of
  walk_given e h = by_start (start_of s) refl h
    where
      by_start : (d : Result Cursor Refusal) → start_of s ≡ d → started d s ≡ stopped e → ReadingGiven s e
      by_start (Ok c) g h =
          let k = sound_header s c g in
          let r = stopped_walks (rts_words (be16 s 2) (length s) k.0.words) (length s) 8 e refl (rw k.1 at h) in
          given.in_block r.to (k.0.long, k.0.version, (k.0.type, k.0.format), k.0.words, k.0.unpadded) r.reached r.fault
      by_start (Err x) g h = let z : x ≡ e = cc in start_given e (g ∙ ap Err z)

  -- a refusal is given only if its condition holds, and none before it
  pub refused_given : (e : Refusal) → decode_packet s ≡ refused e → ReadingGiven s e
  unfolding decode_packet
  refused_given e h = by_walk (walk_of s) refl h
    where
      by_walk : (w : Walked) → walk_of s ≡ w → decoded w s ≡ refused e → ReadingGiven s e
      by_walk (walked bs) f h = never (cc)
      by_walk (stopped x) f h = let z : x ≡ e = cc in walk_given e (f ∙ ap stopped z)

  start_stopped : (e : Refusal) → Err e ≡ start_of s → walk_of s ≡ stopped e
  unfolding walk_of
  start_stopped e h = rw (← h)

  sound_walk : Sound s → walk_of s ≡ walk_from s 8
  unfolding walk_of
  sound_walk h = rw (← sound s h.0 h.1 h.2.0 h.2.1 h.3 h.4)

  type_refused : Long s → Version s → (Typed s → ⊥) → Err BadType ≡ start_of s
  type_refused l v t = split_eq (type_of s) 205 (λ e. bad_format s l v e (λ f. t (e, f))) (bad_type_lem s l v)

  pub given_stopped : (e : Refusal) → ReadingGiven s e → walk_of s ≡ stopped e
  given_stopped e (given.ReadingGiven.too_short_of h) = start_stopped e (too_short s (split_le 12 (length s) (λ l. absurd (h l)) (λ l. l)))
  given_stopped e (given.bad_version l v) = start_stopped e (bad_version_lem s l v)
  given_stopped e (given.bad_type l v t) = start_stopped e (type_refused l v t)
  given_stopped e (given.bad_length l v t w) = start_stopped e (bad_length_lem s l v t.0 t.1 w)
  given_stopped e (given.padded l v t w u) = start_stopped e (padded s l v t.0 t.1 w u)
  given_stopped e (given.in_block at h w f) = sound_walk h ∙ walks_stopped (rts_words (be16 s 2) (length s) h.3) 8 at e refl w f

  -- and it is given if it does
  pub given_refused : (e : Refusal) → ReadingGiven s e → decode_packet s ≡ refused e
  unfolding decode_packet
  given_refused e g = rw (given_stopped e g)

  fault_numbers : (at : ℕ) (e : Refusal) → Fault s at e → OneOf (number_of e) reader_numbers
  fault_numbers at e (header_room h r) = inr (inr (inr (inr (inr (inl refl)))))
  fault_numbers at e (too_many_of h m) = inr (inr (inr (inr (inr (inr (inl refl))))))
  fault_numbers at e (metrics_room h f m) = inr (inr (inr (inr (inr (inl refl)))))
  fault_numbers at e (filler_set h f m o z) = inr (inr (inr (inr (inr (inr (inr (inl refl)))))))

  -- no others than 21 to 28 come
  pub reader_numbers_lem : (e : Refusal) → ReadingGiven s e → OneOf (number_of e) reader_numbers
  reader_numbers_lem e (given.ReadingGiven.too_short_of h) = inl refl
  reader_numbers_lem e (given.bad_version l v) = inr (inl refl)
  reader_numbers_lem e (given.bad_type l v t) = inr (inr (inl refl))
  reader_numbers_lem e (given.bad_length l v t w) = inr (inr (inr (inl refl)))
  reader_numbers_lem e (given.padded l v t w u) = inr (inr (inr (inr (inl refl))))
  reader_numbers_lem e (given.in_block at h w f) = fault_numbers at e f

  pub read_refused_given : (e : Refusal) → read_of (decode_packet s) ≡ Err e → ReadingGiven s e
  read_refused_given e h = by_decoded (decode_packet s) refl h
    where
      by_decoded : (d : Decoded) → decode_packet s ≡ d → read_of d ≡ Err e → ReadingGiven s e
      by_decoded (packet p) f h = never (cc)
      by_decoded (refused x) f h = let z : x ≡ e = cc in refused_given e (f ∙ ap refused z)

  pub read_given_refused : (e : Refusal) → ReadingGiven s e → read_of (decode_packet s) ≡ Err e
  read_given_refused e g = rw (given_refused e g)

  -- ---- a packet is accepted exactly if its header is sound and sound blocks fill the room up to RTS

  walks_end : rts_at s % 4 ≡ 0 → {P : Type 0} (at : ℕ) → Walks s at (rts_at s) → at % 4 ≡ 0 → ((bs : List ReportBlock) → walk_from s at ≡ walked bs → P) → P
  walks_end q at here a then = then [] (walk_end s at _ (step_end s at (omega arith)) refl)
  walks_end q at (past b w) a then =
      let n = num_reports_of s at in
      walks_end q (at + block_octets n) w (next_words at n a)
      (λ bs e. then (block_here_of s at n ∷ bs) (walk_block s at _ (sound_step at q a b) _ _ refl ∙ rw e))

  pub when_accepted : Sound s → Walks s 8 (rts_at s) → (e : Refusal) → decode_packet s ≡ refused e → ⊥
  unfolding decode_packet
  when_accepted h w e r =
      walks_end (rts_words (be16 s 2) (length s) h.3) 8 w refl
      (λ bs f. let z : decoded (walk_of s) s ≡ packet (packet_in s bs) = rw (sound_walk h ∙ f) in
      let y : packet (packet_in s bs) ≡ refused e = sym z ∙ r in never (cc))

  pub accepted_when : (p : Packet) → decode_packet s ≡ packet p → Sound s × Walks s 8 (rts_at s)
  accepted_when p d =
      accepted s p d (λ bs f z.
      let k = walked_sound s bs f in
      let q = rts_words (be16 s 2) (length s) k.0.words in
      let w = walk_ind s (λ at bs. at % 4 ≡ 0 → at ≤ rts_at s → Walks s at (rts_at s))
      (λ at h a l. let y : at ≡ rts_at s = omega arith in subst (Walks s at) y here)
      (λ at b next bs f r a l.
      let y = next_at s at b next f in
      past (step_sound at q a b next f)
      (rw y at (r (rw y (next_words at (num_reports_of s at) a)) (next_room s at b next f))))
      8 bs k.1 refl (omega (arith, k.0.long)) in
      ((k.0.long, k.0.version, (k.0.type, k.0.format), k.0.words, k.0.unpadded), w))

  -- ---- block k

  nth_none : (bs : List ReportBlock) (k : ℕ) (e : Refusal) → nth bs k ≡ Err e → (NoBlock ≡ e) × (length bs ≤ k)
  nth_none [] k e h = (cc, omega arith)
  nth_none (b ∷ bs) zero e h = never (cc)
  nth_none (b ∷ bs) (suc k) e h = let r = nth_none bs k e h in (r.0, omega (arith, r.1))

  nth_past : (bs : List ReportBlock) (k : ℕ) → length bs ≤ k → nth bs k ≡ Err NoBlock
  nth_past [] k l = refl
  nth_past (b ∷ bs) zero l = absurd (omega arith)
  nth_past (b ∷ bs) (suc k) l = nth_past bs k (omega arith)

  walked_read : (bs : List ReportBlock) → walk_of s ≡ walked bs → decode_packet s ≡ packet (packet_in s bs)
  unfolding decode_packet
  walked_read bs f = rw f

  pub block_refused_given : (k : ℕ) (e : Refusal) → read_block s k ≡ Err e → BlockGiven s k e
  block_refused_given k e h = by_walk (walk_of s) refl h
    where
      by_walk : (w : Walked) → walk_of s ≡ w → located w k ≡ Err e → BlockGiven s k e
      by_walk (walked bs) f h =
          let r = nth_none bs k e h in
          subst (BlockGiven s k) r.0 (no_block (packet_in s bs) (walked_read bs f) (omega (arith, r.1, length-map bs (block_in s))))
      by_walk (stopped x) f h = let z : x ≡ e = cc in given.BlockGiven.reader (walk_given e (f ∙ ap stopped z))

  pub block_given_refused : (k : ℕ) (e : Refusal) → BlockGiven s k e → read_block s k ≡ Err e
  block_given_refused k e (given.BlockGiven.reader g) = rw (given_stopped e g)
  block_given_refused k e (no_block p d l) =
      accepted s p d (λ bs f z.
      let y : length p.blocks ≡ length bs = ap (λ (x : Packet). length x.blocks) z ∙ length-map bs (block_in s) in
      rw f (nth_past bs k (omega arith)))

  -- and its part is then empty
  pub part_given_empty : (k : ℕ) (e : Refusal) → BlockGiven s k e → metrics_part (read_block s k) s ≡ []
  part_given_empty k e g = rw (block_given_refused k e g)

  -- ---- metric j of block k

  metric_past : (bs : List form.Block) (k j : ℕ) → k < length bs → length (metrics_of bs k) ≤ j → packet_metric bs k j ≡ Err NoNumber
  metric_past [] k j l m = absurd (omega arith)
  metric_past (b ∷ bs) zero j l m = simp (le-leb (length b.metrics) j m)
  metric_past (b ∷ bs) (suc k) j l m = metric_past bs k j (omega arith) m

  metric_none : (bs : List form.Block) (k j : ℕ) (e : Refusal) → k < length bs → packet_metric bs k j ≡ Err e
      → (NoNumber ≡ e) × (length (metrics_of bs k) ≤ j)
  metric_none [] k j e l h = absurd (omega arith)
  metric_none (b ∷ bs) zero j e l h =
      split_le (length b.metrics) j
      (λ m. let z = simp (le-leb (length b.metrics) j m) at h in (cc, m))
      (λ m. let z = simp (lt-leb (length b.metrics) j m) at h in never (cc))
  metric_none (b ∷ bs) (suc k) j e l h = metric_none bs k j e (omega arith) h

  pub metric_refused_given : (k j : ℕ) (e : Refusal) → read_metric s k j ≡ Err e → MetricGiven s k j e
  metric_refused_given k j e h = by_block (read_block s k) refl h
    where
      found_walked : (b : ReportBlock) (w : Walked) → walk_of s ≡ w → located w k ≡ Ok b → reported_in b s j ≡ Err e → MetricGiven s k j e
      found_walked b (walked bs) f g h =
          let p = packet_in s bs in
          split_le (length bs) k
          (λ l. let x = nth_past bs k l in never (cc))
          (λ l. let m : packet_metric p.blocks k j ≡ Err e = sym (metric_asked_lem s p (walked_read bs f) k j) ∙ rw (f, g) h in
          let r = metric_none p.blocks k j e (omega (arith, length-map bs (block_in s))) m in
          subst (MetricGiven s k j) r.0 (no_number p (walked_read bs f) (omega (arith, length-map bs (block_in s))) r.1))
      found_walked b (stopped x) f g h = never (cc)

      by_block : (a : Result ReportBlock Refusal) → read_block s k ≡ a → reported_of a s j ≡ Err e → MetricGiven s k j e
      by_block (Ok b) g h = found_walked b (walk_of s) refl g h
      by_block (Err x) g h = let z : x ≡ e = cc in given.block (block_refused_given k e (g ∙ ap Err z))

  pub metric_given_refused : (k j : ℕ) (e : Refusal) → MetricGiven s k j e → read_metric s k j ≡ Err e
  metric_given_refused k j e (given.block g) = rw (block_given_refused k e g)
  metric_given_refused k j e (no_number p d l m) = metric_asked_lem s p d k j ∙ metric_past p.blocks k j l m

  -- ---- the rewriter

  pub rewrite_refused_given : (out : List ℕ) (e : Refusal) → (rewrite_of (decode_packet s) out).answer ≡ Err e → RewritingGiven s out e
  rewrite_refused_given out e h = by_decoded (decode_packet s) refl h
    where
      by_decoded : (d : Decoded) → decode_packet s ≡ d → (rewrite_of d out).answer ≡ Err e → RewritingGiven s out e
      by_decoded (refused x) f h = let z : x ≡ e = cc in given.RewritingGiven.reader (refused_given e (f ∙ ap refused z))
      by_decoded (packet p) f h =
          let z = rw (accepted_octets s p f) at h in
          split_le (length s) (length out)
          (λ l. let y = simp (le-ltb (length out) (length s) l) at z in never (cc))
          (λ l. let y = simp (lt-ltb (length out) (length s) l) at z in
          let x : OutputTooShort ≡ e = cc in
          subst (RewritingGiven s out) x (given.RewritingGiven.too_short_of p f l))

  pub rewrite_given_refused : (out : List ℕ) (e : Refusal) → RewritingGiven s out e → rewrite_of (decode_packet s) out ≡ output_after (Err e) out
  rewrite_given_refused out e (given.RewritingGiven.reader g) = rw (given_refused e g)
  rewrite_given_refused out e (given.RewritingGiven.too_short_of p d l) = rw (d, accepted_octets s p d) (simp (lt-ltb (length out) (length s) l))

  -- a refused call changes nothing
  pub rewrite_refused_stays : (out : List ℕ) (e : Refusal) → (rewrite_of (decode_packet s) out).answer ≡ Err e → (rewrite_of (decode_packet s) out).output ≡ out
  rewrite_refused_stays out e h = ap (λ (x : OutputAfter (Result ℕ Refusal)). x.output) (rewrite_given_refused out e (rewrite_refused_given out e h))
