use Rattle.std.proofs.Common.{◌≡◌, map, take}
use Rattle.serde_json.specs.View.{view}
use Rattle.model_json.specs.ChainValue.{tuples_value}
use Rattle.model_json.proofs.chain_values.implied_values.Given as goal

abbrev pub invariant-loop-pairs : goal.invariant-loop-pairs
invariant-loop-pairs l = map view l.values.items ≡ map tuples_value (take l.pairs-index l.implied)
