use Rattle.std.proofs.Common.{◌≡◌, ◌<◌, ℕ, not, false, length, slice_index_or}
use Rattle.live_monitor.proofs.watched.rejecting.Given as goal

abbrev pub invariant-loop-state : goal.invariant-loop-state
invariant-loop-state l = record {
  long : length l.rejecting ≡ 12;
  are : (q : ℕ) → q < l.state → slice_index_or l.rejecting q false ≡ not (slice_index_or l.table.accepting q false);
}
