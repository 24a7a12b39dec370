use Rattle.std.proofs.Common.{◌≡◌, map}
use Rattle.std.specs.List.{range_with_len}
use Rattle.serde_json.specs.View.{view}
use Rattle.model_json.specs.ChainValue.{numbers_value, row_of}
use Rattle.model_json.proofs.chain_values.rows_value.Given as goal

abbrev pub invariant-loop-state : goal.invariant-loop-state
invariant-loop-state l = map view l.values.items ≡ map numbers_value (map (row_of l.link) (range_with_len 0 l.state))
