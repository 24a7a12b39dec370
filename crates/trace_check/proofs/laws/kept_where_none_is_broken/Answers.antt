use Rattle.trace_check.proofs.Kept.{all-kept, all-fulfilled}
use Rattle.trace_check.proofs.laws.kept_where_none_is_broken.Goals as goal

pub returns-clause-kept : goal.returns-clause-kept
returns-clause-kept c = all-kept

pub returns-clause-fulfilled : goal.returns-clause-fulfilled
returns-clause-fulfilled c = all-fulfilled
