use Rattle.reduce_model.proofs.Sifts.{IsSiftedSoFar}
use Rattle.reduce_model.proofs.conflicts.sift.Given as goal

abbrev pub invariant-loop-candidate : goal.invariant-loop-candidate
invariant-loop-candidate l = IsSiftedSoFar l.symbols l.states l.list l.candidate-index l.kept l.decisions.items
