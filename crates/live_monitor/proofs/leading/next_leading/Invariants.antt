use Rattle.std.proofs.Common.{◌≡◌, ◌<◌, ℕ, true, false, slice_index_or}
use Rattle.live_monitor.specs.Watching.{leads_on}
use Rattle.live_monitor.proofs.leading.next_leading.Given as goal

abbrev pub invariant-loop-state : goal.invariant-loop-state
invariant-loop-state l = (q : ℕ) → q < l.state → leads_on l.table l.constraint l.events l.marked q ≡ true → slice_index_or l.marked q false ≡ true
