use Rattle.std.specs.Prelude.{All}
use Rattle.serde_json.specs.View.{view}
use Rattle.chain_cert.specs.Forms.{IsAscending}
use Rattle.model_json.specs.Certificate.{list_of, tuple_in}
use Rattle.model_json.proofs.OneByOne.{IsReadTo}
use Rattle.model_json.proofs.links.implied_of.Given as goal

abbrev pub invariant-loop-value : goal.invariant-loop-value
invariant-loop-value l = IsReadTo view (list_of (tuple_in 2)) l.values l.value-index l.implied.items × All IsAscending l.implied.items
