use Rattle.std.proofs.Common.{◌≡◌, ◌<◌, ◌^◌, take, length}
use Rattle.event_log.specs.Logs.{events_of}
use Rattle.trace_check.specs.Index.{lists, IsIndex}
use Rattle.trace_check.proofs.index.places_of.Given as goal

abbrev pub invariant-loop-number : goal.invariant-loop-number
invariant-loop-number l = record {
  start : l.start ≡ length (events_of (take l.number l.log.traces));
  index : IsIndex l.count (events_of (take l.number l.log.traces)) (lists l.index.items);
  all : length (events_of l.log.traces) < 2 ^ 64;
}
