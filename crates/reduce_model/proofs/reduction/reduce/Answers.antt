use Rattle.std.proofs.lemmas.Result.{err_from_is_err_and}
use Rattle.reduce_model.proofs.Reduces.{refused-1}
use Rattle.reduce_model.proofs.reduction.reduce.Goals as goal

pub returns-in_err-decisions-clause-err : goal.returns-in_err-decisions-clause-err
returns-in_err-decisions-clause-err c =
    let is = err_from_is_err_and c.from_residual.result c.from_residual.ensures.1 in
    rw (is.1, is.2) (refused-1 c.args.symbols c.args.states c.args.list.now c.in_err-decisions.field-0.0 c.requires.some_states c.in_err-decisions.ensures.err)
