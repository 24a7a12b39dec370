use Rattle.reduce_model.proofs.SecondPassesWithin.{IsTestingBack}
use Rattle.reduce_model.proofs.second_within.pass_second_within.Given as goal

abbrev pub invariant-loop-place : goal.invariant-loop-place
invariant-loop-place l = IsTestingBack l.symbols l.states l.list l.fn.decisions l.decisions l.place

abbrev pub decreases-loop-place : goal.decreases-loop-place
decreases-loop-place l = l.place
