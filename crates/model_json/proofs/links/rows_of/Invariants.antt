use Rattle.std.proofs.Common.{map}
use Rattle.serde_json.specs.View.{view}
use Rattle.model_json.specs.Certificate.{list_of, number_in}
use Rattle.model_json.proofs.OneByOne.{IsReadTo}
use Rattle.model_json.proofs.links.rows_of.Given as goal

abbrev pub invariant-loop-value : goal.invariant-loop-value
invariant-loop-value l = IsReadTo view (list_of number_in) l.values l.value-index (map (λ row. row.items) l.rows.items)
