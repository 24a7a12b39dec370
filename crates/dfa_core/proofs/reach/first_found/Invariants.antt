use Rattle.std.proofs.Common.{◌≡◌, ℕ, ◌<◌, ◌≤◌, ◌+◌, ◌*◌, ◌-◌, length, get_or, false}
use Rattle.dfa_core.specs.Searching.{IsOn}
use Rattle.dfa_core.proofs.reach.first_found.Given as goal

abbrev pub invariant-rows : goal.invariant-rows
invariant-rows g l = record {
  on : IsOn (g.S.System.steps l.system) l.search l.place;
  none : (k : ℕ) → k < length l.search.states.items → (g.S.System.steps l.system).accepting (get_or l.search.states.items k 0) ≡ false;
  rows : l.place ≡ l.at * (g.S.System.steps l.system).symbols;
  in_states : l.at ≤ length l.search.states.items;
}

abbrev pub invariant-steps : goal.invariant-steps
invariant-steps g l = record {
  on : IsOn (g.S.System.steps l.system) l.search l.place;
  none : (k : ℕ) → k < length l.search.states.items → (g.S.System.steps l.system).accepting (get_or l.search.states.items k 0) ≡ false;
  row : l.place ≡ l.at * (g.S.System.steps l.system).symbols + l.symbol;
  in_states : l.at < length l.search.states.items;
}

abbrev pub decreases-rows : goal.decreases-rows
decreases-rows g l = (g.S.System.steps l.system).states - l.at
