use Rattle.std.proofs.Common.{◌≡◌, ◌≤◌, ◌-◌, length}
use Rattle.dfa_core.specs.Automaton.{state_count}
use Rattle.dfa_minimise.proofs.Progress.{IsStableBelow}
use Rattle.dfa_minimise.specs.Classes.{IsSound}
use Rattle.dfa_minimise.specs.Partitions.{IsTidy}
use Rattle.dfa_minimise.proofs.Refining.{IsBeingSplit}
use Rattle.dfa_minimise.proofs.worklist.equivalent_states.Given as goal

abbrev pub invariant-splitters : goal.invariant-splitters
invariant-splitters l = record {
  tidy : IsTidy l.classes;
  states : length l.classes.class.items ≡ state_count l.dfa;
  sound : IsSound l.dfa l.classes.class.items;
  stable : IsStableBelow l.dfa l.classes.class.items l.splitter;
  within : l.splitter ≤ length l.classes.first.items;
}

abbrev pub decreases-splitters : goal.decreases-splitters
decreases-splitters l = state_count l.dfa - l.splitter

abbrev pub invariant-columns : goal.invariant-columns
invariant-columns l = record {
  tidy : IsTidy l.classes;
  states : length l.classes.class.items ≡ state_count l.dfa;
  grows : length l.initial.classes.first.items ≤ length l.classes.first.items;
  split : IsBeingSplit l.dfa (length l.initial.classes.first.items) l.splitter l.column l.initial.classes.class.items l.classes.class.items;
}
