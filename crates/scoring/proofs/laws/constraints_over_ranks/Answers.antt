use Rattle.scoring.proofs.Members.{constraints_are}
use Rattle.scoring.proofs.laws.constraints_over_ranks.Goals as goal

pub returns : goal.returns
returns c = constraints_are
