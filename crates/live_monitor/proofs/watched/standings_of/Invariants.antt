use Rattle.std.proofs.Common.{◌≡◌, ◌<◌, ℕ, false, length, slice_index_or}
use Rattle.live_monitor.specs.Watching.{standing_by}
use Rattle.live_monitor.specs.declared.standing.Standing.TheVariants.{Kept}
use Rattle.live_monitor.proofs.watched.standings_of.Given as goal

abbrev pub invariant-loop-state : goal.invariant-loop-state
invariant-loop-state l = record {
  long : length l.standings ≡ 12;
  are : (q : ℕ) → q < l.state
      → slice_index_or l.standings q Kept ≡ standing_by (slice_index_or l.table.accepting q false) (slice_index_or l.may_keep q false) (slice_index_or l.may_break q false);
}
