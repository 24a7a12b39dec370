use Rattle.std.proofs.Common.{ℕ, ◌<◌}
use Rattle.model_compare.specs.Unused.{IsSink}
use Rattle.model_compare.proofs.dead.sink_of.Given as goal

abbrev pub invariant-loop-state : goal.invariant-loop-state
invariant-loop-state l = (q : ℕ) → q < l.state → IsSink l.dfa q → ⊥
