use Rattle.std.proofs.Common.{arith}
use Rattle.template_core.proofs.Bounds.{bounds_of}
use Rattle.templates_pair.proofs.co_existence.CoExistenceTemplate.fulfilled.Goals as goal

pub overflow_add-result : goal.overflow_add-result
overflow_add-result c = omega (arith, bounds_of _ _ c.requires.counts)

pub overflow_sub-result : goal.overflow_sub-result
overflow_sub-result c = omega (arith, bounds_of _ _ c.requires.counts)

pub overflow_sub-result-2 : goal.overflow_sub-result-2
overflow_sub-result-2 c = omega (arith, bounds_of _ _ c.requires.counts)
