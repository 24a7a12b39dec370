use Rattle.std.proofs.Common.{◌≡◌}
use Rattle.list_dfa.proofs.Grows.{IsGrowing}
use Rattle.list_dfa.specs.Growing.{grown_from}
use Rattle.list_dfa.proofs.growing.grow.Given as goal

abbrev pub invariant-loop-constraint : goal.invariant-loop-constraint
invariant-loop-constraint l = record {
  grows : IsGrowing l.states l.fn.start l.list l.constraint-index (grown_from l.fn.start l.grown);
  counted : l.count ≡ l.constraint-index;
}
