-- What is printed at the end of a file. Assumes nothing.
use Prim.Native.Nat.{ℕ, ◌+◌, ◌≤◌}
use mathlib.Core.Path.{◌≡◌, sym, ap, ◌∙◌}
use mathlib.Core.List.{List, ◌++◌}
use native.Mathlib.Omega.{arith}
use lib.ListN.{length}
use Rattle.octets.specs.Output.{OutputAfter, output_after}
use Rattle.refusal.specs.declared.Refusal.{Refusal}
use Rattle.arrival_file.specs.File.{end_of}
use Rattle.std.specs.Prelude.{Result, Ok, Err}
use Rattle.intake.specs.declared.Intake.{Intake}
use Rattle.line_refusal.specs.Refused.{refused_line}
use Rattle.line_newest.specs.Newest.{report_text}
use Rattle.line_hex.specs.Hex.{put_text}
use Rattle.line_report.specs.Report.{line_room}
use Rattle.line_gap.specs.Gap.{gap_line, put_text_at}
use Rattle.line_gap.proofs.Puts.{then_put, length_gap}
use Rattle.line.specs.Line.{text_room, finished_text}

module _ (places cells : List ℕ) (i : Intake) (v : Result (Unit {0}) Refusal) (e : v ≡ end_of i.phase i.left) where
  pub whole_text : v ≡ Ok tt → finished_text places cells i ≡ report_text places cells i.rts ++ gap_line i.gap
  unfolding finished_text
  whole_text h = rw (← e, h)

  pub faulty_text : (q : Refusal) → v ≡ Err q → finished_text places cells i ≡ refused_line q
  unfolding finished_text
  faulty_text q h = rw (← e, h)

-- text at the front of an output is text at offset 0
at_front : (out text : List ℕ) → put_text out text ≡ put_text_at out 0 text
at_front out text = let z : 0 + length text ≡ length text = omega arith in rw z

-- the gap behind the report
pub gap_behind : (out mid last text : List ℕ) (n r gap : ℕ) → output_after n mid ≡ put_text out text → n ≤ line_room
    → output_after r last ≡ put_text_at mid n (gap_line gap) → (output_after r last ≡ put_text out (text ++ gap_line gap)) × (r ≤ text_room)
gap_behind out mid last text n r gap p few q = (
  then_put out mid last 0 n r text (gap_line gap) (p ∙ at_front out text) q ∙ sym (at_front out (text ++ gap_line gap)),
  let t : r ≡ n + length (gap_line gap) = ap (λ (o : OutputAfter ℕ). o.answer) q in omega (arith, length_gap gap),
)

pub line_fits : (out exit text : List ℕ) (r : ℕ) → (output_after r exit ≡ put_text out text) × (r ≤ line_room)
    → (output_after r exit ≡ put_text out text) × (r ≤ text_room)
line_fits out exit text r h = (h.0, omega (arith, h.1))
