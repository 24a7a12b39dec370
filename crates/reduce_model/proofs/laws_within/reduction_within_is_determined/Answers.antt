use Rattle.reduce_model.proofs.DeterminedWithin.{reduced_within_unique, reduction_within_unique, sift_within_unique}
use Rattle.reduce_model.proofs.laws_within.reduction_within_is_determined.Goals as goal

pub returns-clause-sift : goal.returns-clause-sift
returns-clause-sift c = sift_within_unique

pub returns-clause-decisions : goal.returns-clause-decisions
returns-clause-decisions c = reduced_within_unique

pub returns-clause-reduction : goal.returns-clause-reduction
returns-clause-reduction c = reduction_within_unique
