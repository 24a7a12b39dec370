use Rattle.reduce_model.proofs.MeaningWithin.{keepable-within}
use Rattle.reduce_model.proofs.laws_within.model_within_is_keepable.Goals as goal

pub returns : goal.returns
returns c = keepable-within
