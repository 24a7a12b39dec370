use Rattle.serde_json.specs.View.{view}
use Rattle.model_json.proofs.OneByOne.{IsReadTo}
use Rattle.model_json.proofs.lists.list_of.Given as goal

abbrev pub invariant-loop-element : goal.invariant-loop-element
invariant-loop-element g l = IsReadTo view (g.T.Element.of) l.element-items l.element-index l.elements.items
