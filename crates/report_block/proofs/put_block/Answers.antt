use Rattle.cell_metrics.specs.Metrics.{cell_metric}
use Rattle.report_block.proofs.Metrics.{block_parts}
use Rattle.report_block.proofs.put_block.Goals as goal

pub returns : goal.returns
returns c =
    let a = c.args in
    record {
      content = block_parts (cell_metric a.cells.now a.rts a.p) a.out.now _ _ _ a.at a.ssrc a.begin
          a.count c.put_block_header.ensures.content c.put_metrics.ensures.content c.put_filler.ensures.content;
    }
