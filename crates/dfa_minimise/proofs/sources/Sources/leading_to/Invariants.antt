use Rattle.std.proofs.Common.{◌≡◌, ◌<◌, ℕ, length, get_or, take}
use Rattle.dfa_core.specs.Automaton.{state_count, step_column}
use Rattle.dfa_minimise.proofs.Progress.{LeadsTo, after}
use Rattle.dfa_minimise.specs.Partitions.{is_in}
use Rattle.dfa_minimise.proofs.Walking.{visited}
use Rattle.dfa_minimise.proofs.sources.Sources.leading_to.Given as goal

abbrev pub invariant-targets : goal.invariant-targets
invariant-targets l = record {
  bound : (k : ℕ) → k < length l.sources.items → get_or l.sources.items k 0 < state_count l.self.dfa.now;
  are : (q : ℕ) → q < state_count l.self.dfa.now → is_in l.sources.items q ≡ is_in (take l.target-index l.targets) (step_column l.self.dfa.now q l.fn.column);
}

abbrev pub invariant-sources : goal.invariant-sources
invariant-sources l = record {
  bound : (k : ℕ) → k < length l.sources.items → get_or l.sources.items k 0 < state_count l.self.dfa.now;
  leads : LeadsTo l.self.dfa.now l.fn.column (get_or l.targets l.target-index 0) l.next;
  are : (q : ℕ) → q < state_count l.self.dfa.now
      → is_in l.sources.items q ≡ visited l.self.dfa.now l.fn.column (get_or l.targets l.target-index 0) l.next (is_in (take l.target-index l.targets) (step_column l.self.dfa.now q l.fn.column)) q;
}

abbrev pub decreases-sources : goal.decreases-sources
decreases-sources l = after l.next
