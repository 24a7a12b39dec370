use Rattle.std.proofs.lemmas.Result.{IfOk-weaker}
use Rattle.dfa_product.proofs.Pairing.{found-outside}
use Rattle.dfa_product.proofs.outside.first_outside.Goals as goal

pub returns-clause-ok : goal.returns-clause-ok
returns-clause-ok c =
    IfOk-weaker c.first_accepted.result _ _ (found-outside c.args.first.now c.args.second.now c.states-width.ensures.whole c.requires.same_symbols) c.first_accepted.ensures.ok
