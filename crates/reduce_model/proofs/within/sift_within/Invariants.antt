use Rattle.reduce_model.proofs.SiftsWithin.{IsSiftingWithin}
use Rattle.reduce_model.proofs.within.sift_within.Given as goal

abbrev pub invariant-loop-candidate : goal.invariant-loop-candidate
invariant-loop-candidate l = IsSiftingWithin l.symbols l.states l.list l.candidate-index l.kept l.decisions.items
