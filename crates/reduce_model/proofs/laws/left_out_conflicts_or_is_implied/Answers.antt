use Rattle.reduce_model.proofs.Consequences.{left_out}
use Rattle.reduce_model.proofs.laws.left_out_conflicts_or_is_implied.Goals as goal

pub returns : goal.returns
returns c = left_out
