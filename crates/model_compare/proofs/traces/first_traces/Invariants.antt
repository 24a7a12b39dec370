use Rattle.std.proofs.Common.{◌≡◌, length}
use Rattle.dfa_core.specs.Automaton.{Accepts}
use Rattle.model_compare.proofs.Firsts.{AreSoFar}
use Rattle.model_compare.proofs.traces.first_traces.Given as goal

abbrev pub invariant-loop : goal.invariant-loop
invariant-loop l = record {
  so_far : AreSoFar l.dfa.symbols (Accepts l.dfa) l.traces.items;
  counted : length l.traces.items ≡ l.counter;
}
