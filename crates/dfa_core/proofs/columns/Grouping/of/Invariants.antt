use Rattle.dfa_core.specs.Grouping.{AreMet, IsGrouped}
use Rattle.dfa_core.proofs.columns.Grouping.of.Given as goal

abbrev pub invariant-loop-symbol : goal.invariant-loop-symbol
invariant-loop-symbol g l = record {
  grouped : IsGrouped (g.S.Columned.columns l.system) l.symbol l.grouping.of.items l.grouping.least.items;
  met : AreMet (g.S.Columned.columns l.system) l.symbol l.grouping.of.items l.grouping.least.items l.grouping.numbers.items;
}
