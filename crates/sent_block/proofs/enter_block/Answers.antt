use Rattle.std.proofs.Common.{◌≡◌, ◌+◌, ◌-◌, ◌*◌, ◌%◌, ◌≤◌, ◌∙◌, arith, rules}
use Rattle.ring.specs.Ring.{cells_of_a_place}
use Rattle.window.specs.Number.{distance_of}
use Rattle.sent_block.specs.Steps.{first_in_window, end_in_window}
use Rattle.sent_block.proofs.Steps.{window_start, window_end}
use Rattle.sent_block.proofs.Runs.{Cut, same_slot, two_runs}
use Rattle.sent_block.proofs.enter_block.Goals as goal

pub returns-then-first-end : goal.returns-then-first-end
returns-then-first-end c =
    let a = c.args in
    let f = c.saturating_sub-first.result in
    let count = c.min-end.result - f in
    let first : f ≡ first_in_window (distance_of a.highest a.b.begin_seq) = search rules in
    let last : f + count ≡ end_in_window (distance_of a.highest a.b.begin_seq) a.b.num_reports = search rules in
    let cell : c.cell_index-at.result ≡ cells_of_a_place * a.p + (a.b.begin_seq + f) % cells_of_a_place =
    search (rules, same_slot (a.b.begin_seq + f)) in
    let cut : Cut ((a.b.begin_seq + f) % cells_of_a_place) count c.min-n.result = search rules in
    record {
      content = rw (c.enter_run-then-first-end.ensures.content, c.enter_run.ensures.content, cell)
          (two_runs a.packet.now a.p a.highest a.rts a.b.begin_seq a.b.metrics_at a.b.num_reports
          (omega arith) (omega arith) c.requires.few f count _ first last cut a.cells.now);
    }

-- no number of the block is in the window
pub returns-else-first-end : goal.returns-else-first-end
returns-else-first-end c =
    let a = c.args in
    let last : end_in_window (distance_of a.highest a.b.begin_seq) a.b.num_reports ≤ first_in_window (distance_of a.highest a.b.begin_seq) = search rules in
    record {
      content = window_end a.packet.now a.p a.highest a.rts a.b.begin_seq a.b.metrics_at a.b.num_reports a.cells.now
          (omega arith) (omega arith) c.requires.few _ last
          ∙ window_start a.packet.now a.p a.highest a.rts a.b.begin_seq a.b.metrics_at a.b.num_reports a.cells.now
          (omega arith) (omega arith) c.requires.few;
    }
