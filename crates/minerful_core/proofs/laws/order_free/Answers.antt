use Rattle.minerful_core.proofs.OrderFree.{outcome_same}
use Rattle.minerful_core.proofs.laws.order_free.Goals as goal

pub returns : goal.returns
returns c = outcome_same
