use Rattle.std.proofs.Common.{◌≡◌, map, take}
use Rattle.serde_json.specs.View.{view}
use Rattle.model_json.specs.ChainValue.{numbers_value}
use Rattle.model_json.proofs.chain_values.tuples_value.Given as goal

abbrev pub invariant-loop-tuple : goal.invariant-loop-tuple
invariant-loop-tuple g l = map view l.values.items ≡ map numbers_value (take l.tuple-index l.tuples)
