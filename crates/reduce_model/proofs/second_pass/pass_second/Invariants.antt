use Rattle.std.proofs.Common.{reverse}
use Rattle.reduce_model.proofs.SecondPasses.{AreFound, IsPassingBack}
use Rattle.reduce_model.proofs.second_pass.pass_second.Given as goal

abbrev pub invariant-loop-place : goal.invariant-loop-place
invariant-loop-place l = record {
  passing : IsPassingBack l.symbols l.states l.list l.fn.decisions l.decisions l.place;
  witnesses : AreFound l.symbols l.states l.list l.decisions l.place (reverse l.found.items);
}

abbrev pub decreases-loop-place : goal.decreases-loop-place
decreases-loop-place l = l.place
