use Rattle.std.proofs.Common.{◌≡◌}
use Rattle.serde_json.specs.View.{view}
use Rattle.model_json.specs.Certificate.{dropped_by}
use Rattle.model_json.proofs.OneByOne.{IsReadTo}
use Rattle.model_json.proofs.claims.dropped_of.Given as goal

abbrev pub invariant-loop-item : goal.invariant-loop-item
invariant-loop-item l = IsReadTo view (dropped_by l.repertoire l.fn.names.names) l.items l.item-index l.dropped.items × (l.names ≡ l.fn.names)
