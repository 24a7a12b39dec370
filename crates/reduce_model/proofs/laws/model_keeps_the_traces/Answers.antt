use Rattle.reduce_model.proofs.Meaning.{same-traces}
use Rattle.reduce_model.proofs.laws.model_keeps_the_traces.Goals as goal

pub returns : goal.returns
returns c = same-traces
