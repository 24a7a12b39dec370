use Rattle.reduce_model.proofs.MeaningWithin.{witnesses-break-within}
use Rattle.reduce_model.proofs.laws_within.witnesses_within_break_one_each.Goals as goal

pub returns : goal.returns
returns c = witnesses-break-within
