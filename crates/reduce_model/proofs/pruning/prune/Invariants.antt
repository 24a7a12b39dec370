use Rattle.reduce_model.proofs.Prunes.{IsPruning}
use Rattle.reduce_model.proofs.pruning.prune.Given as goal

abbrev pub invariant-loop-place : goal.invariant-loop-place
invariant-loop-place l = IsPruning l.list l.fn.decisions l.decisions l.place
