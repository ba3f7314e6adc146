-- Rules: "ccfbline", rules "Records", "RTS of the report" and "Gap". What the records of an arrival
-- file make: each is an arrival, the last known time becomes RTS, and the most numbers that one
-- passed over become the gap.
use Rattle.std.specs.Prelude.{ℕ, max, List, Option, Result, Some, None, Ok, Err}
use Rattle.admission.specs.declared.ArrivalKind.{ArrivalKind}
use Rattle.refusal.specs.declared.Refusal.{Refusal}
use Rattle.places.specs.After.{StoreAfter}
use Rattle.arrivals.specs.Arrivals.{arrived}
use Rattle.arrival_record.specs.declared.Record.{Record}
use Rattle.admission.specs.declared.ArrivalKind.TheVariants as kind

-- what the records so far have made: the store's content, the last known time, and the gap
pub record Recorded : Type 0 where
  pub places : List ℕ
  pub cells : List ℕ
  pub rts : ℕ
  pub gap : ℕ

abbrev pub recorded : List ℕ → List ℕ → ℕ → ℕ → Recorded
recorded places cells rts gap = record { places = places; cells = cells; rts = rts; gap = gap }

-- RTS after a record with this time
abbrev pub last_known : ℕ → Option ℕ → ℕ
last_known rts None = rts
last_known rts (Some t) = t

-- the gap after an arrival with this answer: only one that was accepted and is ahead passed over numbers
abbrev pub gap_after : ℕ → Result ArrivalKind Refusal → ℕ
gap_after gap (Ok kind.First) = gap
gap_after gap (Ok (kind.Ahead n)) = max gap n
gap_after gap (Ok kind.Late) = gap
gap_after gap (Ok kind.Copy) = gap
gap_after gap (Err e) = gap

abbrev pub recorded_after : StoreAfter (Result ArrivalKind Refusal) → ℕ → ℕ → Recorded
recorded_after o rts gap = recorded o.places o.cells rts (gap_after gap o.answer)

-- what one record makes: a refused arrival leaves the store and the gap as they are, and its time counts too
unfoldable pub after_record : Recorded → Record → Recorded
after_record x r =
    recorded_after (arrived x.places x.cells r.ssrc r.number r.mark r.time) (last_known x.rts r.time) x.gap
