use Rattle.std.proofs.Common.{◌≡◌, map, take}
use Rattle.trace_check.specs.Checking.{numbered_row}
use Rattle.trace_check.proofs.rows.rows_of.Given as goal

abbrev pub invariant-loop-k : goal.invariant-loop-k
invariant-loop-k l = l.rows.items ≡ map (numbered_row l.log.traces) (take l.k l.list)
