use Rattle.std.proofs.Common.{◌≡◌, map, take}
use Rattle.serde_json.specs.View.{view}
use Rattle.model_json.specs.ChainValue.{link_value}
use Rattle.model_json.proofs.chain_values.link_values.Given as goal

abbrev pub invariant-loop-link : goal.invariant-loop-link
invariant-loop-link l = map view l.values.items ≡ map link_value (take l.link-index l.links)
