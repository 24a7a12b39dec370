use Rattle.reduce_model.proofs.Consequences.{witnesses-break}
use Rattle.reduce_model.proofs.laws.witnesses_break_one_each.Goals as goal

pub returns : goal.returns
returns c = witnesses-break
