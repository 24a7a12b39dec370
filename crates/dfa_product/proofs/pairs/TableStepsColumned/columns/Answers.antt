use Rattle.dfa_product.proofs.ColumnPairs.{columns-table}
use Rattle.dfa_product.proofs.pairs.TableStepsColumned.columns.Goals as goal

pub returns-clause-alike : goal.returns-clause-alike
returns-clause-alike c = columns-table c.args.self.now.symbols c.args.self.now.table.now c.args.self.now.constraint.now c.args.self.now.keeps
