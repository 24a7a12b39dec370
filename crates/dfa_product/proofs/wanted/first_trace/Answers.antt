use Rattle.std.proofs.lemmas.Result.{IfOk-weaker}
use Rattle.dfa_product.proofs.Pairing.{found-beside}
use Rattle.dfa_product.proofs.wanted.first_trace.Goals as goal

pub returns-in-Beside-clause-ok : goal.returns-in-Beside-clause-ok
returns-in-Beside-clause-ok c =
    let fits = rw c.in-Beside.is at c.requires in
    rw c.in-Beside.is (IfOk-weaker c.first_accepted-in-Beside.result _ _ (λ found is. found-beside c.args.dfa.now c.in-Beside.table c.in-Beside.constraint fits.0 found is) c.first_accepted-in-Beside.ensures.ok)
