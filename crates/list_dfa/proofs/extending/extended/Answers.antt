use Rattle.std.proofs.lemmas.Result.{IfOk-weaker}
use Rattle.list_dfa.proofs.Fitting.{extends-or-wide}
use Rattle.list_dfa.proofs.extending.extended.Goals as goal

pub returns-clause-ok : goal.returns-clause-ok
returns-clause-ok c = IfOk-weaker c.fitted.result _ _ (extends-or-wide c.args.states c.args.dfa.now c.args.constraint.now c.in_ok-both.both c.in_ok-both.ensures.ok) c.fitted.ensures.ok
