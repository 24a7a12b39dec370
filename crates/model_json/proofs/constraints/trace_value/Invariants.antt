use Rattle.std.proofs.Common.{◌≡◌, map, take}
use Rattle.serde_json.specs.Data.{string}
use Rattle.serde_json.specs.View.{view}
use Rattle.model_json.specs.Report.{name_at}
use Rattle.model_json.proofs.constraints.trace_value.Given as goal

abbrev pub invariant-loop-rank : goal.invariant-loop-rank
invariant-loop-rank l = map view l.values.items ≡ map (λ rank. string (name_at l.names.names rank)) (take l.rank-index l.rank-items)
