use Rattle.std.proofs.Common.{ℕ, Option, Some, None, refl, ◌≡◌, ◌-◌, ◌%◌, ◌<◌, length, sym, ap, ◌∙◌, arith}
use Rattle.std.proofs.Math.Seq.{drop-length}
use Rattle.std.proofs.lemmas.List.{length-append}
use Rattle.arrival_record.specs.Record.{record_octets}
use Rattle.std.specs.Option.{unwrap_or}
use Rattle.recording.specs.Recorded.{last_known}
use Rattle.recording.proofs.Records.{left_behind, turn_record, turn_refused, all_taken}
use Rattle.recording.proofs.take_records.Goals as goal

known_is : (rts : ℕ) (time : Option ℕ) → unwrap_or time rts ≡ last_known rts time
known_is rts None = refl
known_is rts (Some t) = refl

pub loop-octets-preserved : goal.loop-octets-preserved
loop-octets-preserved c =
    let i = c.loop-octets.invariant in
    let s = c.in-Some.ensures.steps in
    let n = ap length s.1.0 ∙ length-append c.in-Some.octets.now c.next.new.self.rest.now in (
      s.0 ∙ i.0,
      omega arith,
      left_behind _ _ _ _ i.1 i.2 s.1.0,
      omega arith,
      turn_record _ _ (s.1.1 ∙ i.0) _ _ _ _ _ _ _ _ _ _ _ c.read_record.ensures.value c.in-Ok.is c.arrive-answer.ensures.after
          (c.unwrap_or-last.ensures ∙ known_is c.loop-octets.last c.in-Ok.r.time) c.gap_after-largest.ensures.value
          ∙ rw (s.1.0) at i.4,
    )

pub returns-in-Err : goal.returns-in-Err
returns-in-Err c =
    let i = c.loop-octets.invariant in
    let s = c.in-Some.ensures.steps in
    record {
      after = record {
        within = omega arith;
        is = rw (drop-length c.args.s.now)
            (sym (turn_refused _ _ (s.1.1 ∙ i.0) _ _ _ c.read_record.ensures.value c.in-Err.is) ∙ rw (s.1.0) at i.4);
      };
    }

pub returns : goal.returns
returns c =
    let i = c.loop-octets.invariant in
    let s = c.in-None.ensures.steps in
    let few : length c.loop-octets.octets-iterator.rest.now < record_octets = omega arith in
    let at : length c.args.s.now - (length c.args.s.now - c.args.from) % 12 ≡ length c.args.s.now - length c.loop-octets.octets-iterator.rest.now = omega arith in
    record {
      after = record {
        within = omega arith;
        is = rw (at, i.2) (sym (all_taken _ _ few) ∙ i.4);
      };
    }
