use Rattle.templates_unary.proofs.at_least.AtLeastTemplate.fulfilled.Goals as goal
use Rattle.templates_unary.specs.CountedLaw.{exact_within}

pub more_than-requires-clause-within : goal.more_than-requires-clause-within
more_than-requires-clause-within g c = exact_within _ _ c.requires.counts
