use Rattle.dfa_core.specs.Automaton.{is_accepting}
use Rattle.chain_make.specs.Copies.{AreValues}
use Rattle.chain_make.proofs.copy.accepting_of.Given as goal

abbrev pub invariant-loop-state : goal.invariant-loop-state
invariant-loop-state l = AreValues l.state (is_accepting l.dfa) l.accepting.items
