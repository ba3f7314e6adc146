-- Rules: "Reading a metric", rule "Absent fields". The mark and the offset of a case; a case
-- without one gives the other value. (Its number is `case_number` of metric.)
use Rattle.std.specs.Prelude.{ℕ}
use Rattle.metric.specs.declared.Metric.{Metric}
use Rattle.metric.specs.declared.Metric.TheVariants.{NotReceived, Received, OverRange, NoTime}

abbrev pub mark_or : Metric → ℕ → ℕ
mark_or NotReceived other = other
mark_or (Received mark offset) other = mark
mark_or (OverRange mark) other = mark
mark_or (NoTime mark) other = mark

abbrev pub offset_or : Metric → ℕ → ℕ
offset_or NotReceived other = other
offset_or (Received mark offset) other = offset
offset_or (OverRange mark) other = other
offset_or (NoTime mark) other = other
