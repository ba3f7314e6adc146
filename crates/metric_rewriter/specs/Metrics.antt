-- Rules: "Rewriter". What becomes of a metric: with R = 0 it is written as 0x0000, and else it
-- stays as it is.
use Rattle.std.specs.Prelude.{ℕ, cond, ltb}
use Rattle.metric.specs.Metric.{received_bit}

-- a metric without R is of a number that was not received
abbrev pub rewrite_metric : ℕ → ℕ
rewrite_metric m = cond (ltb m received_bit) 0 m
