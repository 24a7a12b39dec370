use Rattle.std.proofs.Common.{arith}
use Rattle.template_core.proofs.Bounds.{bounds_of}
use Rattle.templates_neg.proofs.not_chain_response.NotChainResponseTemplate.fulfilled.Goals as goal

pub overflow_sub-result : goal.overflow_sub-result
overflow_sub-result c = omega (arith, bounds_of _ _ c.requires.counts)
