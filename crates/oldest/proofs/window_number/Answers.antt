use Rattle.oldest.proofs.window_number.Goals as goal

pub returns : goal.returns
returns c = record { value = c.distance.ensures.value }
