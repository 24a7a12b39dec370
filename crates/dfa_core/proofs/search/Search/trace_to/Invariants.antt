use Rattle.std.proofs.Common.{◌≡◌, ◌≤◌, ◌++◌, reverse}
use Rattle.dfa_core.specs.Searching.{path}
use Rattle.dfa_core.proofs.search.Search.trace_to.Given as goal

abbrev pub invariant-loop-at : goal.invariant-loop-at
invariant-loop-at l = record {
  in_states : l.at ≤ l.number;
  so_far : path l.symbols l.self.found.items l.number l.number ≡ path l.symbols l.self.found.items l.at l.at ++ reverse l.trace.items;
}

abbrev pub decreases-loop-at : goal.decreases-loop-at
decreases-loop-at l = l.at
