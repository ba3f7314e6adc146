use Rattle.std.proofs.Common.{arith}
use Rattle.cutting.proofs.numbers_in.Goals as goal

pub returns-then-room-lt-LEAST_BLOCK : goal.returns-then-room-lt-LEAST_BLOCK
returns-then-room-lt-LEAST_BLOCK c = record { value = omega arith }

pub returns-else-room-lt-LEAST_BLOCK : goal.returns-else-room-lt-LEAST_BLOCK
returns-else-room-lt-LEAST_BLOCK c = record { value = omega arith }
