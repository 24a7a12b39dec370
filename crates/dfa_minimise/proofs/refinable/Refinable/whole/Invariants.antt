use Rattle.dfa_minimise.proofs.Progress.{IsCounting}
use Rattle.dfa_minimise.proofs.refinable.Refinable.whole.Given as goal

abbrev pub invariant-loop-state : goal.invariant-loop-state
invariant-loop-state l = record {
  order : IsCounting l.state l.order.items;
  place : IsCounting l.state l.place.items;
}
