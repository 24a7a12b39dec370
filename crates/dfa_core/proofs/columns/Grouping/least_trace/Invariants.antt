use Rattle.std.proofs.Common.{◌≡◌, map, take, get_or}
use Rattle.dfa_core.proofs.columns.Grouping.least_trace.Given as goal

abbrev pub invariant-loop-column : goal.invariant-loop-column
invariant-loop-column l = l.trace.items ≡ map (λ k. get_or l.self.least.items k 0) (take l.column-index l.columns)
