-- The reader's answers, from what the code's steps have found. Assumes nothing.
use Prim.Native.Nat.{ℕ, zero, suc, ◌+◌, ◌≤◌}
use mathlib.Core.Path.{◌≡◌, refl, sym, ap, ◌∙◌}
use mathlib.Core.List.{List}
use native.Mathlib.Omega.{arith}
use native.Mathlib.Nat.{add-zero, zero-add}
use lib.ListN.{length, length-map}
use Rattle.lists.proofs.Cases.{never}
use Rattle.refusal.specs.declared.Refusal.{Refusal}
use Rattle.octets.specs.Octets.{be32}
use Rattle.walk.specs.Walk.{rts_at, step_at, Walked, walked, stopped, in_front, onward, walk_from, started, walk_of}
use Rattle.packet_header.specs.Header.{start_of}
use Rattle.walk.specs.declared.ReportBlock.{ReportBlock}
use Rattle.packet_header.specs.declared.Cursor.{Cursor}
use Rattle.std.specs.Prelude.{Option, Result, Some, None, Ok, Err}
use Rattle.packet_header.proofs.Starts.{SoundHeader, sound_header}
use Rattle.walk.proofs.Steps.{inside, next_more}
use Rattle.walk.proofs.Walks.{walk_step}
use Rattle.packet.specs.Packet.{sender_at}
use Rattle.reader.specs.declared.Summary.{Summary}
use Rattle.reader.specs.Reading.{refused, decoded, decode_packet, read_of, metrics_at_of}
use Rattle.reader.specs.Steps.{counted}

pub length_metrics_at : (s : List ℕ) (n i : ℕ) → length (metrics_at_of s i n) ≡ n
unfolding metrics_at_of
length_metrics_at s zero i = refl
length_metrics_at s (suc n) i = ap suc (length_metrics_at s n (i + 2))

-- ---- counting blocks

counted_before : (n : ℕ) (b : ReportBlock) (w : Walked) → counted (n + 1) w ≡ counted n (in_front b w)
counted_before n b (walked bs) = ap Ok (omega arith)
counted_before n b (stopped e) = refl

-- what n blocks before an offset and what stands there count
abbrev pub count_on : List ℕ → ℕ → Result (Option (ReportBlock × Cursor)) Refusal → Result ℕ Refusal
count_on s n (Ok (Some (b, next))) = counted (n + 1) (walk_from s next.at)
count_on s n (Ok None) = Ok n
count_on s n (Err e) = Err e

pub count_turn : (s : List ℕ) (at n : ℕ) → counted n (walk_from s at) ≡ count_on s n (step_at s at)
count_turn s at n = rw (walk_step s at) (by_step (step_at s at))
  where
    by_step : (k : Result (Option (ReportBlock × Cursor)) Refusal) → counted n (onward k (walk_from s)) ≡ count_on s n k
    by_step (Ok (Some (b, next))) = sym (counted_before n b (walk_from s next.at))
    by_step (Ok None) = ap Ok (add-zero n)
    by_step (Err e) = refl

-- a turn, and that it goes on within the octets
pub ruleset counts = (count_turn, inside, next_more)

-- ---- the header

module _ (s : List ℕ) where
  pub start_at : (h : Result Cursor Refusal) (c : Cursor) → h ≡ start_of s → h ≡ Ok c → walk_of s ≡ walk_from s c.at
  unfolding walk_of
  start_at h c i f = rw (← i, f)

  pub start_refused : (h : Result Cursor Refusal) (e : Refusal) → h ≡ start_of s → h ≡ Err e → walk_of s ≡ stopped e
  unfolding walk_of
  start_refused h e i f = rw (← i, f)

  -- a packet whose blocks are walked has a sound header, and its blocks start at octet 8
  pub walked_sound : (bs : List ReportBlock) → walk_of s ≡ walked bs → SoundHeader s × (walk_from s 8 ≡ walked bs)
  unfolding walk_of
  walked_sound bs e = by_start (start_of s) refl e
    where
      by_start : (h : Result Cursor Refusal) → start_of s ≡ h → started h s ≡ walked bs → SoundHeader s × (walk_from s 8 ≡ walked bs)
      by_start (Ok c) i f = let h = sound_header s c i in (h.0, rw (← h.1) f)
      by_start (Err x) i f = never (cc)

  -- ---- the reader's first answer

  module _ (k : Result ℕ Refusal) (is : k ≡ counted 0 (walk_of s)) where
    pub read_stopped : (e : Refusal) → k ≡ Err e → decode_packet s ≡ refused e
    unfolding decode_packet
    read_stopped e f = by_walk (walk_of s) (sym is ∙ f)
      where
        by_walk : (w : Walked) → counted 0 w ≡ Err e → decoded w s ≡ refused e
        by_walk (walked bs) f = never (cc)
        by_walk (stopped x) f = let z : x ≡ e = cc in rw z

    -- the walk was not stopped
    pub blocks_walked : {P : Type 0} (n : ℕ) → k ≡ Ok n → ((bs : List ReportBlock) → n ≡ length bs → walk_of s ≡ walked bs → P) → P
    blocks_walked {P} n f then = by_walk (walk_of s) refl (sym is ∙ f)
      where
        by_walk : (w : Walked) → walk_of s ≡ w → counted 0 w ≡ Ok n → P
        by_walk (walked bs) e f = let z : n ≡ 0 + length bs = cc in then bs (z ∙ zero-add (length bs)) e
        by_walk (stopped x) e f = never (cc)

    pub read_header : (n : ℕ) → k ≡ Ok n → SoundHeader s
    read_header n f = blocks_walked n f (λ bs l e. (walked_sound bs e).0)

-- the answer about the whole, from the count of the blocks
abbrev pub summary_if : List ℕ → Result ℕ Refusal → Result Summary Refusal
summary_if s (Ok n) = Ok (record { sender = be32 s sender_at; rts = be32 s (rts_at s); blocks = n })
summary_if s (Err e) = Err e

pub summary_counted : (s : List ℕ) → read_of (decode_packet s) ≡ summary_if s (counted 0 (walk_of s))
unfolding decode_packet
summary_counted s = by_walk (walk_of s)
  where
    by_walk : (w : Walked) → read_of (decoded w s) ≡ summary_if s (counted 0 w)
    by_walk (walked bs) = rw (length-map, zero-add)
    by_walk (stopped e) = refl

pub counted_long : (s : List ℕ) (n : ℕ) → counted 0 (walk_of s) ≡ Ok n → 12 ≤ length s
counted_long s n e = (read_header s _ refl n e).long
