use Rattle.std.proofs.lemmas.Result.{err_from_is_err_and}
use Rattle.model_compare.proofs.Comparing.{compared, refused-first}
use Rattle.model_compare.proofs.comparison.compare.Goals as goal

pub returns-in_err-keeps_first-clause-err : goal.returns-in_err-keeps_first-clause-err
returns-in_err-keeps_first-clause-err c =
    let is = err_from_is_err_and c.from_residual.result c.from_residual.ensures.1 in
    rw (is.1, is.2) (refused-first c.args.symbols c.args.states c.args.first.now c.args.second.now c.in_err-keeps_first.field-0.0 c.in_err-keeps_first.ensures.err)

pub returns-clause-ok : goal.returns-clause-ok
returns-clause-ok c =
    let a = c.in_ok-keeps_first.keeps_first in
    let b = c.in_ok-keeps_second.keeps_second in
    let f = c.in_ok-only_first in
    let g = c.in_ok-only_second in
    rw c.relation_of.ensures (compared c.args.symbols c.args.states c.args.first.now c.args.second.now a b f.only_first g.only_second c.in_ok-keeps_first.ensures.ok c.in_ok-keeps_second.ensures.ok f.ensures.ok g.ensures.ok)
