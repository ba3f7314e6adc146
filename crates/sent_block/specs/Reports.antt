-- Rules: "Sent packets", rule "Taking in". What a packet reports, number by number, and what each
-- report makes of the cells.
use Rattle.std.specs.Prelude.{ℕ, ◌+◌, ◌%◌, cond, List, [], ◌∷◌, ◌++◌, nat_le, Option, Some, None}
use Rattle.ring.specs.Ring.{cells_of_a_place}
use Rattle.window.specs.Number.{sequence_numbers, distance_of}
use Rattle.places.specs.Place.{highest_at, find_of}
use Rattle.place_window.specs.Window.{updated}
use Rattle.packet.specs.Packet.{Block}
use Rattle.sent_word.specs.Word.{word_reported}

-- what a packet reports of one number: its stream, the sequence number, the metric
pub record NumberReport : Type 0 where
  pub ssrc : ℕ
  pub number : ℕ
  pub metric : ℕ

-- metric j of a block, from 0, is that of the number begin + j, modulo 65536
unfoldable pub reports_from : ℕ → ℕ → ℕ → List ℕ → List NumberReport
reports_from ssrc begin j [] = []
reports_from ssrc begin j (m ∷ ms) =
    record { ssrc = ssrc; number = (begin + j) % sequence_numbers; metric = m } ∷ reports_from ssrc begin (j + 1) ms

-- block by block, number by number
unfoldable pub reports_of : List Block → List NumberReport
reports_of [] = []
reports_of (b ∷ bs) = reports_from b.ssrc b.begin 0 b.metrics ++ reports_of bs

-- the word of the number that is b behind the highest one; one that is not in the window is ignored
unfoldable pub word_in_window : ℕ → ℕ → ℕ → ℕ → ℕ
word_in_window b metric rts word = cond (nat_le cells_of_a_place b) word (word_reported metric rts word)

-- a number of the stream that the place p holds: the word of its cell, and no other
abbrev pub reported_at : ℕ → ℕ → ℕ → List ℕ → ℕ → ℕ → List ℕ
reported_at p highest rts cells number metric =
    updated (word_in_window (distance_of highest number) metric rts) cells p number

-- a stream that no place holds is ignored
abbrev pub reported_found : Option ℕ → List ℕ → ℕ → List ℕ → ℕ → ℕ → List ℕ
reported_found (Some p) places rts cells number metric = reported_at p (highest_at places p) rts cells number metric
reported_found None places rts cells number metric = cells

unfoldable pub reported : List ℕ → ℕ → List ℕ → NumberReport → List ℕ
reported places rts cells r = reported_found (find_of places r.ssrc) places rts cells r.number r.metric

-- the cells after these reports of a packet with that RTS, one after the other
unfoldable pub all_reported : List ℕ → ℕ → List ℕ → List NumberReport → List ℕ
all_reported places rts cells [] = cells
all_reported places rts cells (r ∷ rs) = all_reported places rts (reported places rts cells r) rs
