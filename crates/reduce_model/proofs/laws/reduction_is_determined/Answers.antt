use Rattle.reduce_model.proofs.Consequences.{not_both, reduction_unique}
use Rattle.reduce_model.proofs.Existing.{refusal_unique}
use Rattle.reduce_model.proofs.laws.reduction_is_determined.Goals as goal

pub returns-clause-one : goal.returns-clause-one
returns-clause-one c = reduction_unique

pub returns-clause-not_both : goal.returns-clause-not_both
returns-clause-not_both c = not_both

pub returns-clause-one_refusal : goal.returns-clause-one_refusal
returns-clause-one_refusal c = refusal_unique
