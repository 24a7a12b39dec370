use Rattle.std.proofs.Common.{◌≡◌, ◌<◌, ◌≤◌, ◌^◌, take, drop, nat_eq, length}
use Rattle.event_log.specs.Logs.{events_of}
use Rattle.trace_check.specs.Checking.{row}
use Rattle.trace_check.specs.Standing.{places_from}
use Rattle.trace_check.proofs.rows.row_of.Given as goal

abbrev pub invariant-loop-number : goal.invariant-loop-number
invariant-loop-number l = record {
  start : l.start ≡ length (events_of (take l.number l.log.traces));
  first_within : l.first ≤ length l.firsts;
  second_within : l.second ≤ length l.seconds;
  first_left : drop l.first l.firsts ≡ places_from l.constraint.first l.start (events_of (drop l.number l.log.traces));
  second_left : drop l.second l.seconds ≡ places_from l.constraint.second l.start (events_of (drop l.number l.log.traces));
  row : l.row ≡ row nat_eq l.constraint.kind l.constraint.first l.constraint.second (take l.number l.log.traces);
  all : length (events_of l.log.traces) < 2 ^ 64;
}
