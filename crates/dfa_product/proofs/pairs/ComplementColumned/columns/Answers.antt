use Rattle.dfa_core.specs.Automaton.{steps_of}
use Rattle.dfa_core.specs.Columns.{columns_of}
use Rattle.dfa_core.proofs.Runs.{columns-whole}
use Rattle.dfa_product.proofs.ColumnPairs.{columns-complement}
use Rattle.dfa_product.proofs.pairs.ComplementColumned.columns.Goals as goal

pub returns-clause-alike : goal.returns-clause-alike
returns-clause-alike c =
    let dfa = c.args.self.now.dfa.now in
    columns-complement (steps_of dfa) (columns_of dfa) (columns-whole dfa c.columns.ensures.whole)
