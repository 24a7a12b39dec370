use Rattle.std.proofs.Common.{arith, rules}
use Rattle.decl_outside.proofs.Counting.{given_most}
use Rattle.decl_outside.proofs.tests.lines_of.Goals as goal

pub loop-turn-preserved : goal.loop-turn-preserved
loop-turn-preserved c = let given = given_most _ _ _ _ _ c.in-Ok.ensures.line in (search rules, omega (arith, given, c.loop-turn.invariant.1))
