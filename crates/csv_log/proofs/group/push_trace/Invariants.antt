use Rattle.std.proofs.Common.{◌≡◌, ◌++◌, ◌∷◌, [], map, take}
use Rattle.csv_log.proofs.group.push_trace.Given as goal

abbrev pub invariant-loop-event : goal.invariant-loop-event
invariant-loop-event l = l.log ≡ record l.fn.log { traces = l.fn.log.traces ++ map (λ kept. kept.activity) (take l.event-index l.events) ∷ [] }
