use Rattle.serde_json.specs.View.{view}
use Rattle.model_json.specs.Certificate.{witness_in}
use Rattle.model_json.proofs.OneByOne.{IsReadTo}
use Rattle.model_json.proofs.claims.witnesses_of.Given as goal

abbrev pub invariant-loop-item : goal.invariant-loop-item
invariant-loop-item l = IsReadTo view (witness_in l.names.names) l.items l.item-index l.witnesses.items
