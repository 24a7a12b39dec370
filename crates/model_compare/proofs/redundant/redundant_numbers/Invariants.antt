use Rattle.model_compare.proofs.Implied.{AreToldBelow}
use Rattle.model_compare.proofs.redundant.redundant_numbers.Given as goal

abbrev pub invariant-loop-place : goal.invariant-loop-place
invariant-loop-place l = AreToldBelow l.symbols l.states l.list l.place l.redundant.items
