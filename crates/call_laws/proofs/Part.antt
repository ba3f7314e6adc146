-- The octets at the offset and length that a call gives are the part that holds the metrics of the block. Assumes nothing.
use Prim.Native.Nat.{ℕ, ◌+◌, ◌*◌, ◌/◌, ◌<◌, ◌≤◌}
use mathlib.Core.Path.{◌≡◌, refl, sym, ap, ◌∙◌}
use mathlib.Core.List.{List, [], ◌∷◌}
use native.Mathlib.Omega.{arith}
use borrow.Author.Tests.{lt-leb, le-leb}
use lib.ListN.{length, get_or, drop, length-take, length-drop}
use lib.Seq.{get_or-take, get_or-drop}
use Rattle.lists.proofs.Cases.{never, split_le}
use Rattle.refusal.specs.Numbers.{number_of}
use Rattle.octets.specs.Octets.{be16}
use Rattle.metric.specs.Metric.{decode_of}
use Rattle.walk.specs.Walk.{step_at}
use Rattle.walk.specs.declared.ReportBlock.{ReportBlock}
use Rattle.metric_part.specs.Part.{part_of, case_at}
use Rattle.reports.specs.Reports.{Within, reported_in}
use Rattle.reports.proofs.Within.{within}
use Rattle.reader.specs.Reading.{decode_packet, read_of}
use Rattle.block_reader.specs.Blocks.{read_block}
use Rattle.std.specs.Prelude.{Result, Ok, Err}
use Rattle.refusal.specs.declared.Refusal.{Refusal}
use Rattle.metric_reader.proofs.Within.{located_within}
use Rattle.ccfb_calls.specs.Called.{called}
use Rattle.ccfb_reports.specs.Reports.{part_called}
use Rattle.call_laws.specs.Walk.{Memory, WalkGives}
use Rattle.call_laws.specs.Part.{metrics_given, number_given, numbered, HoldsMetrics, AnswersMetrics, PartGiven}
use Rattle.call_laws.proofs.Calls.{answers, numbers, step_given}
use Rattle.call_laws.proofs.Walk.{accepted_yields}
use Rattle.refusal.specs.declared.Refusal.TheVariants.{NoNumber}

module _ (s : List ℕ) where
  module _ (b : ReportBlock) (w : Within s b) where
    given_size : length (metrics_given s b) ≡ 2 * b.num_reports
    given_size = simp (length-take, length-drop) (omega (arith, w.room))

    given_part : metrics_given s b ≡ part_of s b
    given_part = simp (le-leb (b.metrics_at + 2 * b.num_reports) (length s) w.room)

    octet : (i : ℕ) → i < 2 * b.num_reports → get_or (metrics_given s b) i 0 ≡ get_or s (b.metrics_at + i) 0
    octet i l = get_or-take (2 * b.num_reports) (drop b.metrics_at s) i 0 l ∙ get_or-drop b.metrics_at s i 0

    given_metric : (j : ℕ) → j < b.num_reports → be16 (metrics_given s b) (2 * j) ≡ be16 s (b.metrics_at + 2 * j)
    unfolding be16
    given_metric j l =
        let high = octet (2 * j) (omega arith) in
        let low : get_or (metrics_given s b) (2 * j + 1) 0 ≡ get_or s (b.metrics_at + 2 * j + 1) 0 =
        octet (2 * j + 1) (omega arith) ∙ ap (λ (i : ℕ). get_or s i 0) (omega arith) in
        cc

    given_count : length (metrics_given s b) / 2 ≡ b.num_reports
    given_count = omega (arith, given_size)

    case_held : (j : ℕ) → j < b.num_reports → case_at (metrics_given s b) j ≡ Ok (decode_of (be16 s (b.metrics_at + 2 * j)))
    case_held j l = rw given_count (simp (lt-leb b.num_reports j l) (rw (given_metric j l)))

    case_past : (j : ℕ) → b.num_reports ≤ j → case_at (metrics_given s b) j ≡ Err NoNumber
    case_past j l = rw given_count (simp (le-leb b.num_reports j l))

    given_case : (j : ℕ) → reported_in b s j ≡ numbered (number_given b j) (case_at (metrics_given s b) j)
    given_case j =
        split_le b.num_reports j
        (λ l. rw (case_past j l) (simp (le-leb b.num_reports j l)))
        (λ l. rw (case_held j l) (simp (lt-leb b.num_reports j l)))

  -- ---- a block that the reader finds

  module _ (k : ℕ) (b : ReportBlock) (found : read_block s k ≡ Ok b) where
    pub found_holds : HoldsMetrics s k b
    found_holds =
        let w = located_within s k b found in
        record { size = given_size b w; part = rw found (given_part b w); metric = λ j. rw found (given_case b w j) }

    pub found_answers : AnswersMetrics s k b
    found_answers =
        let w = located_within s k b found in
        record {
          held = λ j l number case mark offset. rw (found, case_held b w j l) (simp (lt-leb b.num_reports j l));
          past = λ j l case mark offset. rw (case_past b w j l);
        }

  -- ---- a block that the walk gives

  module _ (m : Memory) (k : ℕ) (b : ReportBlock) (g : WalkGives s m k b) where
    -- its metrics are within the octets, also where the reader refuses what stands behind it
    pub given_within : Within s b
    given_within =
        let at = g.at in
        let step = step_given (at ∷ m.others k) (step_at s at) b g.behind g.given in
        within s at b step.0 step.1.0

    -- and they are those of the reader's block k, if the packet is accepted
    module _ (sender rts n : ℕ) (accepted : read_of (decode_packet s) ≡ Ok (record { sender = sender; rts = rts; blocks = n })) where
      pub given_holds : HoldsMetrics s k b
      given_holds = found_holds k b ((accepted_yields s m sender rts n accepted).only k b g).1

      pub given_answers : AnswersMetrics s k b
      given_answers = found_answers k b ((accepted_yields s m sender rts n accepted).only k b g).1

  -- ---- the block question from C

  pub part_given : (k number at size : ℕ) → part_called (read_block s k) ≡ called number (at ∷ size ∷ []) → PartGiven s k number at size
  part_given k number at size h = by_block (read_block s k) refl h
    where
      by_block : (a : Result ReportBlock Refusal) → read_block s k ≡ a → part_called a ≡ called number (at ∷ size ∷ []) → PartGiven s k number at size
      by_block (Ok b) f h =
          let w = located_within s k b f in
          let n : number ≡ 0 = sym (answers h) in
          let z = numbers h in
          let a : at ≡ b.metrics_at = cc in
          let l : size ≡ 2 * b.num_reports = cc in
          record {
            part = rw (a, l, f) (given_part b w);
            octets = rw (l, f) (ap length (sym (given_part b w)) ∙ given_size b w);
            refusal = rw f n;
            refused = λ e g. never (cc);
          }
      by_block (Err e) f h =
          let n : number ≡ number_of e = sym (answers h) in
          let z = numbers h in
          let a : at ≡ 0 = cc in
          let l : size ≡ 0 = cc in
          record {
            part = rw (a, l, f);
            octets = rw (l, f);
            refusal = rw f n;
            refused = λ x g. let y : e ≡ x = cc in (n ∙ ap number_of y, a, l, rw f);
          }
