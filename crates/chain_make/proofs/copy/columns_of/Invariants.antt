use Rattle.dfa_core.specs.Automaton.{column}
use Rattle.chain_make.specs.Copies.{AreValues}
use Rattle.chain_make.proofs.copy.columns_of.Given as goal

abbrev pub invariant-loop-symbol : goal.invariant-loop-symbol
invariant-loop-symbol l = AreValues l.symbol (column l.dfa) l.columns.items
