use Rattle.reduce_model.proofs.Consequences.{keepable}
use Rattle.reduce_model.proofs.laws.model_is_keepable.Goals as goal

pub returns : goal.returns
returns c = keepable
