use Rattle.std.proofs.Common.{arith}
use Rattle.template_core.proofs.Bounds.{bounds_of}
use Rattle.templates_unary.proofs.at_most.AtMostTemplate.fulfilled.Goals as goal
use Rattle.templates_unary.specs.CountedLaw.{exact_within, more_than-le}

pub more_than-requires-clause-within : goal.more_than-requires-clause-within
more_than-requires-clause-within g c = exact_within _ _ c.requires.counts

pub overflow_sub-result : goal.overflow_sub-result
overflow_sub-result g c = omega (arith, (bounds_of _ _ c.requires.counts).traces, more_than-le c.args.counts.now.first g.row.N, c.more_than.ensures)
