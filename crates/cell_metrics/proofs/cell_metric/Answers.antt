use mathlib.Core.Path.{refl, ◌∙◌}
use Rattle.cell_metrics.specs.Metrics.{cell_metric}
use Rattle.cell_metrics.proofs.cell_metric.Goals as goal

pub returns : goal.returns
unfolding cell_metric
returns c = record { value = c.metric_of_word.ensures.value ∙ rw c.cell_index-at.ensures.value refl }
