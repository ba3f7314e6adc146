-- The piece that a read gives is of octets, since the buffer is; `feed` is called with it behind what was left.
use Rattle.std.proofs.Common.{ℕ, get_or, Fits, w8, rules, arith}
use Rattle.intake.proofs.Pieces.{short_left}
use Rattle.line_input.specs.Turn.{LastTaken}
use Rattle.line_input.proofs.Read.{read_into, piece_taken}
use Rattle.line_input.proofs.take_once.Goals as goal

pub returns-in-Faulty-clause-after : goal.returns-in-Faulty-clause-after
returns-in-Faulty-clause-after g c =
    let a = c.args in
    let back = c.read.new.buf in
    let octets : (k : ℕ) → Fits w8 (get_or (read_into a.intake.left a.buf.now back) k 0) = search rules in
    LastTaken.at_fault _ c.in-Faulty.is
    (piece_taken a.intake a.places.now a.cells.now a.buf.now back (omega arith) c.in_ok-n.n octets
    (omega arith) (search rules) _ _ _ _ _ c.feed-fed.ensures.after)

pub returns-in-Faulty-clause-few : goal.returns-in-Faulty-clause-few
returns-in-Faulty-clause-few g c = short_left _ _ _ _ _ _ c.args.intake _ c.feed-fed.ensures.after

pub returns-in_default : goal.returns-in_default
returns-in_default g c =
    let a = c.args in
    let back = c.read.new.buf in
    let octets : (k : ℕ) → Fits w8 (get_or (read_into a.intake.left a.buf.now back) k 0) = search rules in
    let piece =
    piece_taken a.intake a.places.now a.cells.now a.buf.now back (omega arith) c.in_ok-n.n octets
    (omega arith) (search rules) _ _ _ _ _ c.feed-fed.ensures.after
    in
    record {
      after = (piece, c.in_default.not-Faulty);
      few = short_left _ _ _ _ _ _ a.intake _ c.feed-fed.ensures.after;
    }
