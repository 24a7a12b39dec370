use Rattle.std.proofs.Common.{length, ◌-◌, ◌<◌, ◌≤◌, get_or}
use Rattle.trace_check.proofs.side.places_before.Given as goal

abbrev pub invariant-loop-count : goal.invariant-loop-count
invariant-loop-count l = record {
  least : l.fn.from ≤ l.count;
  most : l.count ≤ length l.places;
  before : l.fn.from < l.count → get_or l.places (l.count - 1) 0 < l.place;
}

abbrev pub decreases-loop-count : goal.decreases-loop-count
decreases-loop-count l = length l.places - l.count
