use Rattle.std.specs.Prelude.{All}
use Rattle.serde_json.specs.View.{view}
use Rattle.chain_cert.specs.Forms.{IsLink}
use Rattle.model_json.specs.Certificate.{link_in}
use Rattle.model_json.proofs.OneByOne.{IsReadTo}
use Rattle.model_json.proofs.links.links_of.Given as goal

abbrev pub invariant-loop-value : goal.invariant-loop-value
invariant-loop-value l = IsReadTo view link_in l.values l.value-index l.links.items × All IsLink l.links.items
