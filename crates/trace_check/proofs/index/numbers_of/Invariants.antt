use Rattle.std.proofs.Common.{◌≡◌, map, take}
use Rattle.event_log.specs.Logs.{place_of}
use Rattle.trace_check.proofs.index.numbers_of.Given as goal

abbrev pub invariant-loop-id : goal.invariant-loop-id
invariant-loop-id l = l.numbers.items ≡ map (place_of l.names.names) (take l.id l.log_names.names)
