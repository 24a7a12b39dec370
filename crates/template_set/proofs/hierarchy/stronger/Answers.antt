use Rattle.std.proofs.Common.{◌∙◌, sym}
use Rattle.std.proofs.lemmas.Bool.{false≢true}
use Rattle.template_set.proofs.Rows.{over}
use Rattle.template_set.proofs.hierarchy.stronger.Goals as goal

pub returns-else-are_over_the_same : goal.returns-else-are_over_the_same
returns-else-are_over_the_same c = (
  λ yes. absurd (false≢true (sym c.if-are_over_the_same.false ∙ yes)),
  λ h. c.are_over_the_same.ensures.1 (over c.args.above.now c.args.below.now h),
)
