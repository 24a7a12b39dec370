use Rattle.std.proofs.Common.{◌≡◌, ◌<◌, ℕ, [], length, slice_index_or}
use Rattle.live_monitor.specs.Standing.{IsStanding}
use Rattle.live_monitor.specs.Watching.{AcceptsFrom}
use Rattle.live_monitor.specs.declared.standing.Standing.TheVariants.{Kept}
use Rattle.live_monitor.proofs.watched_list.standings_of.Given as goal

abbrev pub invariant-loop-state : goal.invariant-loop-state
invariant-loop-state l = record {
  as_many : length l.standings.items ≡ l.state;
  are : (q : ℕ) → q < l.state → IsStanding l.dfa.symbols (AcceptsFrom l.dfa q) [] (slice_index_or l.standings.items q Kept);
}
