use Rattle.reduce_model.proofs.AgreeWithin.{reduction-agrees, sift-agrees}
use Rattle.reduce_model.proofs.laws_within.within_agrees.Goals as goal

pub returns-clause-sift : goal.returns-clause-sift
returns-clause-sift c = sift-agrees

pub returns-clause-reduction : goal.returns-clause-reduction
returns-clause-reduction c = reduction-agrees
