use Rattle.reduce_model.proofs.Determined.{reduced_unique}
use Rattle.reduce_model.proofs.Existing.{exists}
use Rattle.reduce_model.proofs.laws.decisions_are_determined.Goals as goal

pub returns-clause-some : goal.returns-clause-some
returns-clause-some c = λ n list none. exists n list (λ r. none r.0 r.1)

pub returns-clause-one : goal.returns-clause-one
returns-clause-one c = reduced_unique
