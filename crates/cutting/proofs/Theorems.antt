-- What is proved of the plan: it is a cutting under the packet rules, no cutting has fewer packets, and it is the
-- one cutting whose packets are filled up. Assumes nothing.
use Rattle.std.proofs.Common.{◌≡◌, ℕ, ◌≤◌, List, length}
use Rattle.cutting.specs.declared.Request.{Request}
use Rattle.cutting.specs.Cutting.{Cutting, Cuts, DifferentStreams, whole_blocks}
use Rattle.cutting.specs.Filling.{FilledUp}
use Rattle.cutting.specs.Limits.{least_limit}
use Rattle.cutting.specs.Plan.{plan, most_packets}
use Rattle.cutting.proofs.Ahead.{ahead_refl, fewest}
use Rattle.cutting.proofs.FromRules.{counted_whole, split_of_rules}
use Rattle.cutting.proofs.ToRules.{plan_rules}
use Rattle.cutting.proofs.Filling.{packets_filled, packets_only}

-- for every list of requests on different streams, and every limit that is not below the least
pub plan_cuts : (limit : ℕ) (rs : List Request) → DifferentStreams rs → least_limit ≤ limit → Cuts limit rs (plan limit rs)
plan_cuts = plan_rules

-- for every list of requests, every limit and every cutting
pub plan_fewest : (limit : ℕ) (rs : List Request) (c : Cutting) → Cuts limit rs c → length (plan limit rs) ≤ length c
plan_fewest limit rs c h =
    fewest rs limit (most_packets (whole_blocks 0 rs)) c (ahead_refl (whole_blocks 0 rs)) (split_of_rules h) h.packets

-- for every list of requests, and every limit that is not below the least: what each packet begins with did not
-- fit in the packet before
pub plan_filled : (limit : ℕ) (rs : List Request) → least_limit ≤ limit → FilledUp limit (plan limit rs)
plan_filled limit rs l = packets_filled (most_packets (whole_blocks 0 rs)) limit 0 (whole_blocks 0 rs) l (counted_whole 0 rs)

-- and no other cutting is so
pub plan_only : (limit : ℕ) (rs : List Request) (c : Cutting) → least_limit ≤ limit → Cuts limit rs c → FilledUp limit c → c ≡ plan limit rs
plan_only limit rs c l h f = packets_only rs limit 0 (whole_blocks 0 rs) c l (counted_whole 0 rs) (split_of_rules h) h.packets f
