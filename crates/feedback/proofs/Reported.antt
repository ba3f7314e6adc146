-- What a reader of the written octets is told of each number, in the words of the rules. Assumes nothing.
use Prim.Native.Nat.{ℕ, ◌+◌, ◌%◌}
use mathlib.Core.Path.{◌≡◌, refl, sym, ap, ◌∙◌}
use mathlib.Core.List.{List}
use lib.ListN.{take}
use Rattle.lists.specs.All.{All}
use Rattle.lists.proofs.All.{all_zip}
use Rattle.metric.specs.declared.Metric.{Metric}
use Rattle.std.proofs.lemmas.Result.{IfOk-at_ok}
use Rattle.window.specs.Number.{sequence_numbers}
use Rattle.streams.specs.Reading.{Store, Fresh}
use Rattle.history.specs.Calls.{Call, CallInRange, store_run, Accepted}
use Rattle.history.specs.Meaning.{top_of, entries_of, EntryInRange}
use Rattle.history.proofs.ByHistory.{entries_in_range}
use Rattle.std.specs.Prelude.{Result, Ok}
use Rattle.reports.specs.declared.Reported.{Reported}
use Rattle.refusal.specs.declared.Refusal.{Refusal}
use Rattle.cutting.specs.declared.Request.{Request}
use Rattle.writer.specs.Written.{written}
use Rattle.writer_laws.specs.Read.{InBits, packets_in}
use Rattle.feedback.specs.Seen.{full_number, StandsFor, seen_by, history_of, Feedback}
use Rattle.feedback.specs.Reported.{Says, AsArrived, ReportedAsArrived}
use Rattle.feedback.proofs.Says.{says_seen, says_only, none_had, not_received_lem}
use Rattle.feedback.proofs.Theorem.{feedback}
use Rattle.metric.specs.declared.Metric.TheVariants.{NotReceived}

-- an answer with what is seen of the cell is the answer of the rules
as_arrived : (history : List Accepted) (rts s : ℕ) (given : Result Reported Refusal) → All EntryInRange (entries_of history)
    → StandsFor (top_of history) s (full_number (top_of history) s) → given ≡ Ok (record { number = s; metric = seen_by history rts s })
    → AsArrived history rts s given
as_arrived history rts s given range stands e =
    let n : ℕ = full_number (top_of history) s in
    let says : Says (entries_of history) n rts (seen_by history rts s) = says_seen (entries_of history) n rts range in
    record {
      full = n;
      stands = stands;
      seen = seen_by history rts s;
      answers = e;
      says = says;
      not_received = (
        λ g. none_had (entries_of history) n rts (seen_by history rts s) says (same s (seen_by history rts s) NotReceived e g),
        λ none. e ∙ ap (λ (m : Metric). Ok (record { number = s; metric = m })) (not_received_lem (entries_of history) n rts (seen_by history rts s) says none),
      );
    }
  where
    same : (s : ℕ) (m m' : Metric) → given ≡ Ok (record { number = s; metric = m }) → given ≡ Ok (record { number = s; metric = m' }) → m ≡ m'
    same s m m' e g = IfOk-at_ok (λ (r : Reported). m ≡ r.metric) (sym e ∙ g) refl

module _ (st : Store) (new : Fresh st) (cs : List Call) (range : All CallInRange cs) where
  -- the accepted arrivals of a stream say one case of a full number at RTS
  pub one_case : (ssrc n rts : ℕ) (m m' : Metric) → Says (entries_of (history_of st cs ssrc)) n rts m → Says (entries_of (history_of st cs ssrc)) n rts m' → m ≡ m'
  one_case ssrc n rts m m' a b =
      let es = entries_in_range st new cs range ssrc in
      sym (says_only (entries_of (history_of st cs ssrc)) n rts es m a) ∙ says_only (entries_of (history_of st cs ssrc)) n rts es m' b

  module _ (sender rts limit n : ℕ) (rs : List Request) (out : List ℕ) (bits : InBits sender rts rs) (p o : ℕ)
      (e : (written (store_run st cs).places (store_run st cs).cells sender rts limit n rs out).answer ≡ Ok (record { packets = p; octets = o })) where
    abbrev output : List ℕ
    output = (written (store_run st cs).places (store_run st cs).cells sender rts limit n rs out).output

    shown : Feedback st cs sender rts limit rs out output p o
    shown = feedback st new cs range sender rts limit n rs out bits p o e

    -- each number that a written packet reports is answered as the history of its stream says
    pub reported_as_arrived : All (ReportedAsArrived (history_of st cs) rts) (packets_in (take o output))
    reported_as_arrived =
        all_zip (packets_in (take o output))
        (λ s seen full k j b f l.
        as_arrived (history_of st cs b.ssrc) rts ((b.begin_seq + j) % sequence_numbers) _ (entries_in_range st new cs range b.ssrc)
        (full k j b f l) (seen k j b f l))
        shown.seen shown.full
