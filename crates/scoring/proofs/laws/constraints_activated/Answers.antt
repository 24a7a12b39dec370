use Rattle.scoring.proofs.Numbers.{activated_over}
use Rattle.scoring.proofs.laws.constraints_activated.Goals as goal

pub returns : goal.returns
returns c = activated_over
