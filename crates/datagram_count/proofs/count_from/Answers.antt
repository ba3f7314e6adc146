use Rattle.std.proofs.Common.{sym, ◌∙◌, rules}
use Rattle.datagram_count.proofs.Counts.{count_broken}
use Rattle.datagram_count.proofs.count_from.Goals as goal

pub returns-in_err-p : goal.returns-in_err-p
returns-in_err-p c =
    let e = sym c.next_packet.ensures.value ∙ c.in_err-p.was in
    record { value = rw (← c.loop-p.invariant.1, count_broken _ _ _ _ e) (search rules) }
