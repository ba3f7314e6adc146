-- The walk that a caller makes by `ccfb_first_block` and `ccfb_next_block` gives the blocks of the reader, and then the end,
-- exactly if the packet is accepted; else it refuses as the reader does. Assumes nothing.
use Prim.Native.Nat.{ℕ, zero, suc, ◌+◌, ◌<◌, ◌≤◌}
use mathlib.Core.Path.{◌≡◌, refl, sym, ap, subst, ◌∙◌}
use mathlib.Core.List.{List, [], ◌∷◌, ◌++◌}
use native.Mathlib.Omega.{arith}
use native.Mathlib.Nat.{add-zero}
use lib.ListN.{length, length-append, length-map}
use Rattle.lists.proofs.Cases.{never}
use Rattle.refusal.specs.declared.Refusal.{Refusal}
use Rattle.octets.specs.Octets.{be32}
use Rattle.packet.specs.Packet.{sender_at}
use Rattle.packet_header.specs.Header.{start_of}
use Rattle.packet_header.specs.declared.Cursor.{Cursor}
use Rattle.std.specs.Prelude.{Option, Result, Some, None, Ok, Err}
use Rattle.std.proofs.lemmas.Result.{IfOk-at_ok}
use Rattle.reader.specs.declared.Summary.{Summary}
use Rattle.walk.specs.Walk.{rts_at, step_at, Walked, walked, stopped, in_front, onward, walk_from, started, walk_of}
use Rattle.walk.specs.declared.ReportBlock.{ReportBlock}
use Rattle.walk.proofs.Steps.{inside, next_more}
use Rattle.walk.proofs.Walks.{walk_step, walk_block, walk_end, walk_refused}
use Rattle.reader.specs.Reading.{decoded, decode_packet, read_of, block_in}
use Rattle.reader.proofs.Answers as reader
use Rattle.block_reader.specs.Blocks.{nth}
use Rattle.call_laws.specs.Walk.{Memory, next_call, block_given, Reaches, WalkGives, Ends, Refuses, Yields}
use Rattle.call_laws.proofs.Calls.{numbers, start_given, start_refused, step_given, step_refused, step_ended, not_29}

-- ---- blocks in front of a walk

front : List ReportBlock → Walked → Walked
front [] w = w
front (b ∷ bs) w = in_front b (front bs w)

front_last : (bs : List ReportBlock) (b : ReportBlock) (w : Walked) → front (bs ++ (b ∷ [])) w ≡ front bs (in_front b w)
unfolding front
front_last [] b w = refl
front_last (x ∷ bs) b w = ap (in_front x) (front_last bs b w)

front_end : (bs : List ReportBlock) → front bs (walked []) ≡ walked bs
unfolding front
front_end [] = refl
front_end (b ∷ bs) = ap (in_front b) (front_end bs)

front_stopped : (bs : List ReportBlock) (e : Refusal) → front bs (stopped e) ≡ stopped e
unfolding front
front_stopped [] e = refl
front_stopped (b ∷ bs) e = ap (in_front b) (front_stopped bs e)

-- a walk with a block in front is stopped, or the block is its first
front_cases : {P : Type 0} (b : ReportBlock) (w : Walked) (cs : List ReportBlock) → in_front b w ≡ walked cs
    → ((ds : List ReportBlock) → w ≡ walked ds → b ∷ ds ≡ cs → P) → P
front_cases b (walked ds) cs h then = then ds refl (cc)
front_cases b (stopped e) cs h then = never (cc)

front_nth : (bs : List ReportBlock) (b : ReportBlock) (w : Walked) (cs : List ReportBlock) → front bs (in_front b w) ≡ walked cs
    → (length bs < length cs) × (nth cs (length bs) ≡ Ok b)
unfolding front
front_nth [] b w cs h = front_cases b w cs h (λ ds f z. rw (← z) (omega arith, refl))
front_nth (x ∷ bs) b w cs h =
    front_cases x (front bs (in_front b w)) cs h (λ ds f z.
    let r = front_nth bs b w ds f in
    rw (← z) (omega (arith, r.0), r.1))

nth_there : (bs : List ReportBlock) (k : ℕ) → k < length bs → (b : ReportBlock) × (nth bs k ≡ Ok b)
nth_there [] k l = absurd (omega arith)
nth_there (b ∷ bs) zero l = (b, refl)
nth_there (b ∷ bs) (suc k) l = nth_there bs k (omega arith)

module _ (s : List ℕ) where
  -- ---- the reader's answers, by its walk

  accepted : {P : Type 0} (sender rts n : ℕ) → read_of (decode_packet s) ≡ Ok (record { sender = sender; rts = rts; blocks = n })
      → ((bs : List ReportBlock) → walk_of s ≡ walked bs → length bs ≡ n → P) → P
  unfolding decode_packet
  accepted {P} sender rts n h then = by_walk (walk_of s) refl h
    where
      by_walk : (w : Walked) → walk_of s ≡ w → read_of (decoded w s) ≡ Ok (record { sender = sender; rts = rts; blocks = n }) → P
      by_walk (walked bs) f h = then bs f (IfOk-at_ok (λ (r : Summary). length bs ≡ r.blocks) h (sym (length-map bs (block_in s))))
      by_walk (stopped e) f h = never (cc)

  walked_accepted : (bs : List ReportBlock) → walk_of s ≡ walked bs
      → read_of (decode_packet s) ≡ Ok (record { sender = be32 s sender_at; rts = be32 s (rts_at s); blocks = length bs })
  unfolding decode_packet
  walked_accepted bs f = rw (f, length-map)

  refused : (e : Refusal) → read_of (decode_packet s) ≡ Err e → walk_of s ≡ stopped e
  unfolding decode_packet
  refused e h = by_walk (walk_of s) h
    where
      by_walk : (w : Walked) → read_of (decoded w s) ≡ Err e → w ≡ stopped e
      by_walk (walked bs) h = never (cc)
      by_walk (stopped x) h = let z : x ≡ e = cc in ap stopped z

  stopped_refused : (e : Refusal) → walk_of s ≡ stopped e → read_of (decode_packet s) ≡ Err e
  unfolding decode_packet
  stopped_refused e f = rw f

  module _ (m : Memory) where
    -- the calls before determine the offset: there is one walk
    pub one_walk : {k a b : ℕ} → Reaches s m k a → Reaches s m k b → a ≡ b
    one_walk (Reaches.first f) (Reaches.first g) = let z = numbers (sym f ∙ g) in cc
    one_walk (Reaches.next {k} {at} x r f) (Reaches.next {at = to} y q g) =
        let same : next_call s m k at ≡ next_call s m k to = ap (next_call s m k) (one_walk r q) in
        let z = numbers (sym f ∙ same ∙ g) in
        cc

    -- ---- what a caller has walked is in front of what the reader has still to walk

    record Passed (k at : ℕ) : Type 0 where
      blocks : List ReportBlock
      count : length blocks ≡ k
      rest : walk_of s ≡ front blocks (walk_from s at)

    given_block : (k at behind : ℕ) (b : ReportBlock) → next_call s m k at ≡ block_given b behind → walk_from s at ≡ in_front b (walk_from s behind)
    given_block k at behind b h =
        let g = step_given (at ∷ m.others k) (step_at s at) b behind h in
        rw (← g.1.1) (walk_block s at (step_at s at) refl b g.0 g.1.0)

    passed : {k at : ℕ} → Reaches s m k at → Passed k at
    unfolding front
    passed {k} {at} (Reaches.first h) =
        let g = start_given (m.offset ∷ []) (start_of s) at h in
        record { blocks = []; count = refl; rest = rw (← g.1.1) (reader.start_at s (start_of s) g.0 refl g.1.0) }
    passed (Reaches.next {k} {at} {behind} b r h) =
        let p = passed r in
        record {
          blocks = p.blocks ++ (b ∷ []);
          count = simp length-append (omega (arith, p.count));
          rest = p.rest ∙ ap (front p.blocks) (given_block k at behind b h) ∙ sym (front_last p.blocks b (walk_from s behind));
        }

    gives_nth : (bs : List ReportBlock) → walk_of s ≡ walked bs → (k : ℕ) (b : ReportBlock) → WalkGives s m k b
        → (k < length bs) × (nth bs k ≡ Ok b)
    gives_nth bs f k b g =
        let p = passed g.reached in
        let block = ap (front p.blocks) (given_block k g.at g.behind b g.given) in
        let r = front_nth p.blocks b (walk_from s g.behind) bs (sym block ∙ sym p.rest ∙ f) in
        (omega (arith, r.0, p.count), ap (nth bs) (sym p.count) ∙ r.1)

    -- a walk that ends has seen an accepted packet, and all its blocks
    pub ends_accepted : (n : ℕ) → Ends s m n → read_of (decode_packet s) ≡ Ok (record { sender = be32 s sender_at; rts = be32 s (rts_at s); blocks = n })
    ends_accepted n e =
        let p = passed e.reached in
        let step = step_ended s e.at (e.at ∷ m.others n) e.ended in
        let rest = walk_end s e.at (step_at s e.at) refl step in
        walked_accepted p.blocks (p.rest ∙ ap (front p.blocks) rest ∙ front_end p.blocks)
        ∙ ap (λ (n : ℕ). Ok (record { sender = be32 s sender_at; rts = be32 s (rts_at s); blocks = n })) p.count

    -- a walk that is refused has seen a packet that the reader refuses, with the same refusal
    pub refuses_refused : (e : Refusal) → Refuses s m e → read_of (decode_packet s) ≡ Err e
    refuses_refused e (Refuses.header h) =
        stopped_refused e (reader.start_refused s (start_of s) e refl (start_refused (m.offset ∷ []) (start_of s) e h))
    refuses_refused e (Refuses.block {k} {at} r h n) =
        let p = passed r in
        let step = step_refused (at ∷ m.others k) (step_at s at) e n h in
        let rest = walk_refused s at (step_at s at) refl e step in
        stopped_refused e (p.rest ∙ ap (front p.blocks) rest ∙ front_stopped p.blocks e)

    -- ---- the walk gets to the end, or to the refusal, of the reader's walk

    abbrev Finds : ℕ → Walked → Type 0
    Finds k (walked bs) = ((i : ℕ) (b : ReportBlock) → nth bs i ≡ Ok b → WalkGives s m (k + i) b) × Ends s m (k + length bs)
    Finds k (stopped e) = Refuses s m e

    in_front_lem : (k : ℕ) (b : ReportBlock) (w : Walked) → WalkGives s m k b → Finds (suc k) w → Finds k (in_front b w)
    in_front_lem k b (walked bs) g o = (by_place, subst (Ends s m) (omega arith) o.1)
      where
        by_place : (i : ℕ) (x : ReportBlock) → nth (b ∷ bs) i ≡ Ok x → WalkGives s m (k + i) x
        by_place zero x h = let z : b ≡ x = cc in rw (add-zero, ← z) g
        by_place (suc i) x h = subst (λ (n : ℕ). WalkGives s m n x) (omega arith) (o.0 i x h)
    in_front_lem k b (stopped e) g o = o

    stepped : (k at : ℕ) → Reaches s m k at
        → ((b : ReportBlock) (c : Cursor) → step_at s at ≡ Ok (Some (b, c)) → Reaches s m (suc k) c.at → Finds (suc k) (walk_from s c.at))
        → Finds k (walk_from s at)
    stepped k at r rest = rw (walk_step s at) (by_step (step_at s at) refl)
      where
        by_step : (d : (Result (Option (ReportBlock × Cursor)) Refusal)) → step_at s at ≡ d → Finds k (onward d (walk_from s))
        by_step (Ok (Some (b, c))) f =
            let given : next_call s m k at ≡ block_given b c.at = rw f in
            in_front_lem k b (walk_from s c.at) (record { at = at; behind = c.at; reached = r; given = given }) (rest b c f (Reaches.next b r given))
        by_step (Ok None) f = ((λ i b h. never (cc)), rw add-zero (record { at = at; reached = r; ended = rw f }))
        by_step (Err e) f = Refuses.block r (rw f) (not_29 s at e f)

    run : (n k at : ℕ) → length s ≤ n + at → Reaches s m k at → Finds k (walk_from s at)
    run zero k at l r = stepped k at r (λ b c f q. absurd (omega (arith, inside s at b c f)))
    run (suc n) k at l r = stepped k at r (λ b c f q. run n (suc k) c.at (omega (arith, next_more s at b c f)) q)

    outcome : Finds 0 (walk_of s)
    unfolding walk_of
    outcome = by_start (start_of s) refl
      where
        by_start : (d : Result Cursor Refusal) → start_of s ≡ d → Finds 0 (started d s)
        by_start (Ok c) f = run (length s) 0 c.at (omega arith) (Reaches.first (rw f))
        by_start (Err e) f = Refuses.header (rw f)

    -- the walk of an accepted packet gives just its blocks, in order, and then the end
    pub accepted_yields : (sender rts n : ℕ) → read_of (decode_packet s) ≡ Ok (record { sender = sender; rts = rts; blocks = n }) → Yields s m n
    accepted_yields sender rts n h =
        accepted sender rts n h (λ bs f l.
        let o = rw f at outcome in
        record {
          each = λ k u.
              let b = nth_there bs k (omega arith) in
              (b.0, (rw f b.1, subst (λ (i : ℕ). WalkGives s m i b.0) (omega arith) (o.0 k b.0 b.1)));
          only = λ k b g. let r = gives_nth bs f k b g in (omega (arith, r.0), rw f r.1);
          end = subst (Ends s m) (omega arith) o.1;
          once = λ k e. IfOk-at_ok (λ (r : Summary). k ≡ r.blocks) (sym (ends_accepted k e) ∙ h) refl;
        })

    -- the walk of a packet that the reader refuses is refused, with the same refusal
    pub refused_refuses : (e : Refusal) → read_of (decode_packet s) ≡ Err e → Refuses s m e
    refused_refuses e h = rw (refused e h) at outcome
