use Rattle.reduce_model.proofs.MeaningWithin.{same-traces-within}
use Rattle.reduce_model.proofs.laws_within.model_within_keeps_the_traces.Goals as goal

pub returns : goal.returns
returns c = same-traces-within
