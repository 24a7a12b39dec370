use Rattle.std.proofs.Common.{◌<◌, length}
use Rattle.reduce_model.proofs.prefixes.longest.Given as goal

abbrev pub invariant-loop-last : goal.invariant-loop-last
invariant-loop-last l = l.last < length l.prefixes

abbrev pub decreases-loop-last : goal.decreases-loop-last
decreases-loop-last l = l.last
