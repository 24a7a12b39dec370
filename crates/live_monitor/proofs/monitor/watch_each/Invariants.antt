use Rattle.std.proofs.Common.{◌≡◌, All, take}
use Rattle.live_monitor.specs.Stands.{watched_constraints}
use Rattle.live_monitor.specs.Watching.{IsWatched}
use Rattle.live_monitor.proofs.monitor.watch_each.Given as goal

abbrev pub invariant-loop-constraint : goal.invariant-loop-constraint
invariant-loop-constraint l = record {
  are : All (IsWatched l.symbols) l.watched.items;
  of : watched_constraints l.watched.items ≡ take l.constraint-index l.list;
}
