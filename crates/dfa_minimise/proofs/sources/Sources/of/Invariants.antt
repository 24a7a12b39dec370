use Rattle.dfa_minimise.proofs.Progress.{AreFilled}
use Rattle.dfa_minimise.proofs.sources.Sources.of.Given as goal

abbrev pub invariant-columns : goal.invariant-columns
invariant-columns l = AreFilled l.dfa l.column 0 l.last.items l.before.items

abbrev pub invariant-states : goal.invariant-states
invariant-states l = AreFilled l.dfa l.column l.state l.last.items l.before.items
