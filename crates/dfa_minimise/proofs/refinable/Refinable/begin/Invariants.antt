use Rattle.dfa_minimise.specs.Partitions.{Begins}
use Rattle.dfa_minimise.proofs.refinable.Refinable.begin.Given as goal

abbrev pub invariant-loop-at : goal.invariant-loop-at
invariant-loop-at l = Begins l.fn.self l.self l.first l.end l.at
