use native.Mathlib.Omega.{arith}
use Rattle.octets.specs.Octets.{be16}
use Rattle.reader.proofs.Answers.{read_header, read_stopped}
use Rattle.rewriter.proofs.Output.{rewrite_short, rewrite_written}
use borrow.Author.Rules.{rules}
use Rattle.rewriter.proofs.rewrite.Goals as goal

pub returns-in_err-count_blocks : goal.returns-in_err-count_blocks
returns-in_err-count_blocks c =
    record { after = rw (read_stopped _ _ c.count_blocks.ensures.value _ c.in_err-count_blocks.was) (search rules) }

pub returns-then-out-size : goal.returns-then-out-size
returns-then-out-size c =
    record { after = rewrite_short _ _ _ c.count_blocks.ensures.value _ c.in_ok-count_blocks.was c.if-out-size.true }

pub overflow_sub-rts : goal.overflow_sub-rts
overflow_sub-rts c =
    omega (arith, (read_header _ _ c.count_blocks.ensures.value _ c.in_ok-count_blocks.was).long)

pub get32-requires : goal.get32-requires
get32-requires c =
    record { room = omega (arith, (read_header _ _ c.count_blocks.ensures.value _ c.in_ok-count_blocks.was).long) }

pub put_header-requires : goal.put_header-requires
unfolding be16
put_header-requires c =
    let h = read_header _ _ c.count_blocks.ensures.value _ c.in_ok-count_blocks.was in
    record {
      room = omega (arith, h.long);
      some = omega (arith, h.long);
      few = omega (arith, h.words, c.type_inv.packet 2, c.type_inv.packet 3);
    }

pub get32-requires-2 : goal.get32-requires-2
get32-requires-2 c =
    record { room = omega (arith, (read_header _ _ c.count_blocks.ensures.value _ c.in_ok-count_blocks.was).long) }

pub put32-requires : goal.put32-requires
put32-requires c =
    record { room = omega (arith, (read_header _ _ c.count_blocks.ensures.value _ c.in_ok-count_blocks.was).long) }

pub returns : goal.returns
returns c =
    record {
      after = rewrite_written _ _ _ c.count_blocks.ensures.value _ c.in_ok-count_blocks.was _ _ _ c.if-out-size.false
          (rw c.get32.ensures.value at c.put_header.ensures.content) c.rewrite_blocks.ensures.content
          (rw c.get32-2.ensures.value at c.put32.ensures.content);
    }
