use Rattle.std.proofs.Common.{arith}
use Rattle.dfa_core.specs.Automaton.{column}
use Rattle.chain_make.proofs.Copying.{values-all, values-more, values-none}
use Rattle.chain_make.proofs.copy.columns_of.Goals as goal

pub loop-symbol-init : goal.loop-symbol-init
loop-symbol-init c = rw c.new-columns.ensures.items (values-none (column c.args.dfa.now))

pub loop-symbol-preserved : goal.loop-symbol-preserved
loop-symbol-preserved c =
    rw c.in_ok-push.ensures.items (values-more (column c.args.dfa.now) c.loop-symbol.symbol c.loop-symbol.columns.items c.column.result c.loop-symbol.invariant c.column.ensures.value)

pub returns-clause-ok : goal.returns-clause-ok
returns-clause-ok c =
    values-all (column c.args.dfa.now) c.loop-symbol.symbol c.args.dfa.now.symbols c.loop-symbol.columns.items (omega (arith, c.loop-symbol-test.false, c.loop-symbol.auto.symbol-end, c.symbols-symbol-end.ensures)) c.loop-symbol.invariant
