use Rattle.std.proofs.Common.{◌≡◌, ◌<◌, ℕ, ◌&&◌, ltb, length, get_or}
use Rattle.dfa_core.specs.Automaton.{is_accepting}
use Rattle.dfa_minimise.specs.Partitions.{is_in}
use Rattle.dfa_minimise.proofs.worklist.accepting_states.Given as goal

abbrev pub invariant-loop-state : goal.invariant-loop-state
invariant-loop-state l = record {
  bound : (k : ℕ) → k < length l.states.items → get_or l.states.items k 0 < l.state;
  are : (q : ℕ) → is_in l.states.items q ≡ (ltb q l.state && is_accepting l.dfa q);
}
