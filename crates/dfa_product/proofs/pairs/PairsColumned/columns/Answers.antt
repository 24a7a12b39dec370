use Rattle.dfa_core.specs.Automaton.{steps_of}
use Rattle.dfa_core.specs.Columns.{columns_of}
use Rattle.dfa_core.proofs.Runs.{columns-whole}
use Rattle.dfa_product.proofs.ColumnPairs.{columns-pairs}
use Rattle.dfa_product.proofs.pairs.PairsColumned.columns.Goals as goal

pub returns-clause-alike : goal.returns-clause-alike
returns-clause-alike g c =
    let first = c.args.self.now.first.now in
    let second = c.args.self.now.second.now in
    columns-pairs (steps_of first) (g.S.System.steps second) (columns_of first) (g.S.Columned.columns second) c.args.self.now.same_symbols (columns-whole first c.columns.ensures.whole) c.columns-2.ensures.alike
