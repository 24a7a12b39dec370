use Rattle.std.proofs.Common.{◌≡◌, ℕ, ◌<◌}
use Rattle.dfa_core.specs.Automaton.{step}
use Rattle.model_compare.proofs.dead.leads_to.Given as goal

abbrev pub invariant-loop-state : goal.invariant-loop-state
invariant-loop-state l = (q : ℕ) → q < l.state → step l.dfa q l.symbol ≡ l.target
