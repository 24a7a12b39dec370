use Rattle.model_compare.proofs.Comparing.{told}
use Rattle.model_compare.proofs.laws.relation_is_told_by_the_traces.Goals as goal

pub returns : goal.returns
returns c = told
