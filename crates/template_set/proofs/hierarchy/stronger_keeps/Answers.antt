use Rattle.template_set.proofs.Rows.{keeps_below}
use Rattle.template_set.proofs.hierarchy.stronger_keeps.Goals as goal

pub returns : goal.returns
returns c = keeps_below
