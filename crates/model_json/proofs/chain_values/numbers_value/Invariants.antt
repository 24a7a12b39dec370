use Rattle.std.proofs.Common.{◌≡◌, map, take}
use Rattle.serde_json.specs.View.{view}
use Rattle.model_json.specs.ChainValue.{number_value}
use Rattle.model_json.proofs.chain_values.numbers_value.Given as goal

abbrev pub invariant-loop-number : goal.invariant-loop-number
invariant-loop-number l = map view l.values.items ≡ map number_value (take l.number-index l.numbers)
