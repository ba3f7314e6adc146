-- Rules: "Reading a metric". What reading a metric back shows.
use Rattle.std.specs.Prelude.{ℕ, ◌≤◌, ◌≡◌}
use Rattle.metric.specs.Metric.{largest_offset, mark_bits, ato_bits}

-- a metric that is read with an offset: the offset is its ATO, and is neither code
pub record Offset (m mark offset : ℕ) : Type 0 where
  pub marked : mark ≡ mark_bits m
  pub bits : offset ≡ ato_bits m
  pub range : offset ≤ largest_offset
