use Rattle.std.proofs.Common.{◌<◌, ◌≤◌, ◌-◌, length}
use Rattle.dfa_core.specs.Automaton.{steps_of}
use Rattle.chain_make.specs.Searching.{AreFollowed}
use Rattle.chain_make.proofs.search.states_beside.Given as goal

abbrev pub invariant-rows : goal.invariant-rows
invariant-rows g l = record {
  followed : AreFollowed (g.S.System.steps l.system) (steps_of l.dfa) l.search l.at 0;
  in_found : l.at ≤ length l.search.found.items;
}

abbrev pub invariant-steps : goal.invariant-steps
invariant-steps g l = record {
  followed : AreFollowed (g.S.System.steps l.system) (steps_of l.dfa) l.search l.at l.symbol;
  in_found : l.at < length l.search.found.items;
}

abbrev pub decreases-rows : goal.decreases-rows
decreases-rows g l = (g.S.System.steps l.system).states - l.at
