use Rattle.std.proofs.Common.{◌≡◌}
use Rattle.serde_json.specs.View.{view}
use Rattle.model_json.specs.Certificate.{constraint_in}
use Rattle.model_json.proofs.OneByOne.{IsReadTo}
use Rattle.model_json.proofs.claims.constraints_of.Given as goal

abbrev pub invariant-loop-item : goal.invariant-loop-item
invariant-loop-item l = IsReadTo view (constraint_in l.repertoire l.fn.names.names) l.items l.item-index l.constraints.items × (l.names ≡ l.fn.names)
