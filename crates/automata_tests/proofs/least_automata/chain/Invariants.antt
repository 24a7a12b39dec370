use Rattle.std.proofs.Common.{◌≡◌, ◌+◌, ◌<◌, length}
use Rattle.std.specs.List.{AllByRecursion}
use Rattle.automata_tests.proofs.least_automata.chain.Given as goal

abbrev pub invariant-loop-state : goal.invariant-loop-state
invariant-loop-state l = record {
  entries : AllByRecursion (λ x. x < l.last + 1) l.next.items;
  next_length : length l.next.items ≡ l.state;
  accepting_length : length l.accepting.items ≡ l.state;
}
