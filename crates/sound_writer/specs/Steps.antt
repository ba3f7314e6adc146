-- The steps of the code: a report whose requests were checked. No statement for a caller needs this.
use Rattle.std.specs.Prelude.{ℕ, ◌≤◌, List, length}
use Rattle.places.specs.Shape.{Shaped}
use Rattle.cutting.specs.Limits.{least_limit, most_limit, most_requests}
use Rattle.requests.specs.Steps.{FoundAll}
use Rattle.blocks.specs.declared.Report.{Report}

-- a sound limit, a store of the right shape, and at most 16 requests, with the place of each one's stream
pub record SoundReport (places : List ℕ) (report : Report) : Type 0 where
  pub least : least_limit ≤ report.limit
  pub most : report.limit ≤ most_limit
  pub few : length report.requests.now ≤ most_requests
  pub shape : Shaped places report.cells.now
  pub found_all : length report.requests.now ≤ length report.found.now
  pub held : FoundAll places report.requests.now report.found.now
