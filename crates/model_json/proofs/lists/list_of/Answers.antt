use Rattle.std.proofs.Common.{ap, arith, option_and_then, sym, ◌∙◌}
use Rattle.serde_json.specs.View.{view}
use Rattle.model_json.specs.Model.{each}
use Rattle.model_json.proofs.Elements.{list_in-is, listed}
use Rattle.model_json.proofs.OneByOne.{read-all, read-stop}
use Rattle.model_json.proofs.lists.list_of.Goals as goal

pub returns-in_default-read : goal.returns-in_default-read
returns-in_default-read g c =
    let elements = c.deref-element-items.result.now in
    sym (ap (option_and_then (each (g.T.Element.of))) (list_in-is _ elements (listed c.deref-element-items.ensures.value c.in-Some.ensures))
    ∙ read-stop view (g.T.Element.of) elements c.loop-element.element-index c.element-item.result c.loop-element-test.true c.element-item.is c.loop-element.elements.items (sym c.in_default-read.ensures) c.loop-element.invariant)

pub returns : goal.returns
returns g c =
    let elements = c.deref-element-items.result.now in
    sym (ap (option_and_then (each (g.T.Element.of))) (list_in-is _ elements (listed c.deref-element-items.ensures.value c.in-Some.ensures))
    ∙ read-all view (g.T.Element.of) elements c.loop-element.element-index c.loop-element.elements.items (omega (arith, c.loop-element-test.false)) c.loop-element.invariant)
