-- Rules: "Writer", rule "Result". What the measure of a cutting answers: how many packets it has,
-- and their octets together.
use Rattle.std.specs.Prelude.{◌≡◌, length}
use Rattle.plan_size.specs.declared.Total.{Total}
use Rattle.cutting.specs.Cutting.{Cutting}
use Rattle.cutting.specs.Plan.{total_octets}

pub record Measures (c : Cutting) (r : Total) : Type 0 where
  pub packets : r.packets ≡ length c
  pub octets : r.octets ≡ total_octets c
