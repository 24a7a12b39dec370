use Rattle.std.proofs.Common.{[]}
use Rattle.trace_check.specs.Index.{lists, IsIndex}
use Rattle.trace_check.proofs.index.no_places.Given as goal

abbrev pub invariant-loop : goal.invariant-loop
invariant-loop l = IsIndex l.counter [] (lists l.index.items)
