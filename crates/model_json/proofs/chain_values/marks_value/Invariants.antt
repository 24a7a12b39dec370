use Rattle.std.proofs.Common.{◌≡◌, map, take}
use Rattle.serde_json.specs.View.{view}
use Rattle.model_json.specs.ChainValue.{mark_value}
use Rattle.model_json.proofs.chain_values.marks_value.Given as goal

abbrev pub invariant-loop-accepts : goal.invariant-loop-accepts
invariant-loop-accepts l = map view l.values.items ≡ map mark_value (take l.accepts-index l.accepting)
