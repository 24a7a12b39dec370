use Rattle.std.proofs.Common.{arith}
use Rattle.list_dfa.proofs.Fitting.{fitted-few, fitted-least}
use Rattle.list_dfa.proofs.extending.fitted.Goals as goal

pub returns-then-count-states-clause-ok : goal.returns-then-count-states-clause-ok
returns-then-count-states-clause-ok c =
    let count = c.states-count.ensures.value in
    let few = c.if-count-states.true in
    fitted-few c.args.states c.args.dfa c.states-count.ensures.whole (omega (arith, count, few))

pub returns-clause-ok : goal.returns-clause-ok
returns-clause-ok c = fitted-least c.args.states c.args.dfa c.in-Some.fewest (rw c.in-Some.is at c.in_ok-fewest.ensures.ok)
