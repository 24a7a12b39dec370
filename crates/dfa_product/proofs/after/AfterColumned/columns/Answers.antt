use Rattle.dfa_product.proofs.AfterRuns.{columns-after}
use Rattle.dfa_product.proofs.after.AfterColumned.columns.Goals as goal

pub returns-clause-alike : goal.returns-clause-alike
returns-clause-alike c = columns-after c.args.self.now.symbols c.args.self.now.trace.now
