use Rattle.template_set.proofs.Same.{same_is}
use Rattle.template_set.proofs.hierarchy.are_same.Goals as goal

pub returns : goal.returns
returns c = same_is c.args.one.now c.args.other.now c.eq.result c.eq.ensures
