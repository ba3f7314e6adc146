-- What taking in answers and leaves, from what the code's steps have found. Assumes nothing.
use Prim.Native.Nat.{ℕ}
use mathlib.Core.Path.{◌≡◌, refl}
use mathlib.Core.Bool.{Bool, true, false, cond}
use mathlib.Core.List.{List}
use lib.ListN.{length}
use Rattle.lists.proofs.Cases.{never}
use Rattle.refusal.specs.declared.Refusal.{Refusal}
use Rattle.octets.specs.Octets.{be32}
use Rattle.places.specs.Shape.{shaped}
use Rattle.packet.specs.Sizes.{packet_header_octets}
use Rattle.walk.specs.Walk.{Walked, walked, stopped, walk_from, walk_of, rts_at}
use Rattle.walk.specs.declared.ReportBlock.{ReportBlock}
use Rattle.reader.specs.Reading.{Decoded, packet, refused, decoded, decode_packet, read_of}
use Rattle.reader.proofs.Answers.{walked_sound}
use Rattle.sent_block.specs.Reports.{reports_of}
use Rattle.sent_block.proofs.Reports.{length_all_reported}
use Rattle.sent_feedback.specs.TakeIn.{cells_after, taken_as_of, taken_in}
use Rattle.sent_feedback.specs.Steps.{NotStopped, blocks_taken}
use Rattle.refusal.specs.declared.Refusal.TheVariants.{BadStore}
use Rattle.std.specs.Prelude.{Ok, Err}
use Rattle.std.proofs.lemmas.Result.{IfOk-at_ok}
use Rattle.reader.specs.declared.Summary.{Summary}

module _ (s : List ℕ) (sender rts blocks : ℕ) (e : read_of (decode_packet s) ≡ Ok (record { sender = sender; rts = rts; blocks = blocks })) where
  -- the blocks of an accepted packet were walked to their end
  accepted_walk : {P : Type 0} → ((bs : List ReportBlock) → walk_of s ≡ walked bs → rts ≡ be32 s (rts_at s) → P) → P
  unfolding decode_packet
  accepted_walk {P} then = by_walk (walk_of s) refl e
    where
      by_walk : (w : Walked) → walk_of s ≡ w → read_of (decoded w s) ≡ Ok (record { sender = sender; rts = rts; blocks = blocks }) → P
      by_walk (walked bs) f g = then bs f (IfOk-at_ok (λ (r : Summary). r.rts ≡ be32 s (rts_at s)) g refl)
      by_walk (stopped x) f g = never (cc)

  pub accepted_sound : NotStopped (walk_from s packet_header_octets)
  accepted_sound = accepted_walk (λ bs w r. rw (walked_sound s bs w).1 tt)

  pub taken_accepted : (places cells after : List ℕ) → shaped places cells ≡ true
      → after ≡ blocks_taken places rts s cells (walk_from s packet_header_octets)
      → cells_after (Ok tt) after ≡ taken_in places cells s
  unfolding decode_packet
  taken_accepted places cells after sh f = accepted_walk (λ bs w r. rw (w, sh, f, (walked_sound s bs w).1, r))

module _ (places cells s : List ℕ) where
  pub taken_misshapen : shaped places cells ≡ false → cells_after (Err BadStore) cells ≡ taken_in places cells s
  taken_misshapen e = rw e

  pub taken_refused : (x : Refusal) → shaped places cells ≡ true → read_of (decode_packet s) ≡ Err x
      → cells_after (Err x) cells ≡ taken_in places cells s
  taken_refused x sh e = rw sh (by_reading (decode_packet s) e)
    where
      by_reading : (d : Decoded) → read_of d ≡ Err x → cells_after (Err x) cells ≡ taken_as_of d places cells
      by_reading (packet p) f = never (cc)
      by_reading (refused y) f = let z : y ≡ x = cc in rw z

  -- whatever the answer, there are as many cells as before
  pub length_taken : length (taken_in places cells s).cells ≡ length cells
  length_taken = by_shape (shaped places cells)
    where
      by_reading : (d : Decoded) → length (taken_as_of d places cells).cells ≡ length cells
      by_reading (packet p) = length_all_reported places p.rts (reports_of p.blocks) cells
      by_reading (refused x) = refl

      by_shape : (b : Bool) → length (cond b (taken_as_of (decode_packet s) places cells) (cells_after (Err BadStore) cells)).cells ≡ length cells
      by_shape true = by_reading (decode_packet s)
      by_shape false = refl
