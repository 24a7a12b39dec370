use Rattle.template_set.proofs.Rows.{strict}
use Rattle.template_set.proofs.hierarchy.stronger_is_strict.Goals as goal

pub returns : goal.returns
returns c = strict
