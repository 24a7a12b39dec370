use Rattle.std.proofs.Common.{◌≡◌, map, take}
use Rattle.serde_json.specs.View.{view}
use Rattle.model_json.specs.Report.{scored_value}
use Rattle.model_json.proofs.report.scored_values.Given as goal

abbrev pub invariant-loop-scored : goal.invariant-loop-scored
invariant-loop-scored l = map view l.values.items ≡ map (scored_value l.names.names) (take l.scored-index l.list)
