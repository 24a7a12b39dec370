use Rattle.std.proofs.Common.{◌≡◌, ◌<◌, ℕ, true, false, length, slice_index_or}
use Rattle.live_monitor.specs.Watching.{LeadsToMarked}
use Rattle.live_monitor.proofs.Marks.{unmarked}
use Rattle.live_monitor.proofs.leading.leading_to.Given as goal

abbrev pub invariant-loop-state : goal.invariant-loop-state
invariant-loop-state l = record {
  long : length l.leading ≡ 12;
  sound : (q : ℕ) → q < l.table.states → slice_index_or l.leading q false ≡ true → LeadsToMarked l.symbols l.table l.constraint l.fn.marked q;
  contains : (q : ℕ) → slice_index_or l.fn.marked q false ≡ true → slice_index_or l.leading q false ≡ true;
}

abbrev pub decreases-loop-state : goal.decreases-loop-state
decreases-loop-state l = unmarked l.leading
