use Rattle.decl_base.proofs.Orders.{ordered}
use Rattle.decl_base.proofs.fraction.fractions_are_ordered.Goals as goal

pub returns : goal.returns
returns c = ordered
