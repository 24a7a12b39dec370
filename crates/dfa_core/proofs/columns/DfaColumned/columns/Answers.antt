use Rattle.dfa_core.proofs.Runs.{columns-whole}
use Rattle.dfa_core.proofs.columns.DfaColumned.columns.Goals as goal

pub returns-clause-alike : goal.returns-clause-alike
returns-clause-alike c = columns-whole c.args.self.now c.columns.ensures.whole
