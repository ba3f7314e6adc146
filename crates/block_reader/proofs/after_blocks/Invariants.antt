-- The invariant: what is left to pass leads from here to
-- where k blocks lead from the start.
use Rattle.std.proofs.Common.{◌≡◌, ◌-◌}
use Rattle.block_reader.specs.Steps.{after_blocks}
use Rattle.block_reader.proofs.after_blocks.Given as goal

abbrev pub invariant-loop : goal.invariant-loop
invariant-loop l =
    after_blocks (l.k - l.counter) l.packet l.cursor.at ≡ after_blocks l.k l.packet l.initial.cursor.at
