use Rattle.reduce_model.proofs.MeaningWithin.{left_out_within}
use Rattle.reduce_model.proofs.laws_within.left_out_within_is_implied_conflicts_or_is_wide.Goals as goal

pub returns : goal.returns
returns c = left_out_within
