use Rattle.std.proofs.Common.{sym, ◌∙◌, arith}
use Rattle.line_hex.proofs.Hex.{one_put, all_put}
use Rattle.line_hex.proofs.put_hex.Goals as goal

pub loop-i-preserved : goal.loop-i-preserved
loop-i-preserved c =
    rw (c.hex_digit.ensures.value, c.hex_digit-in-loop-i.ensures.value) (one_put c.loop-i.out c.args.packet.now c.loop-i.i (omega arith)) ∙ c.loop-i.invariant

pub returns : goal.returns
returns c = record { content = sym (all_put c.loop-i.out c.args.packet.now c.loop-i.i (omega arith)) ∙ c.loop-i.invariant }
