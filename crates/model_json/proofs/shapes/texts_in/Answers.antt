use Rattle.std.proofs.Common.{map, ◌∙◌}
use Rattle.serde_json.specs.Find.{as_str}
use Rattle.serde_json.specs.View.{view}
use Rattle.model_json.specs.Model.{each}
use Rattle.model_json.proofs.Elements.{each-tested, listed, missing, texts_in-is, there}
use Rattle.model_json.proofs.shapes.texts_in.Goals as goal

pub returns-then-are_texts-clause-some : goal.returns-then-are_texts-clause-some
returns-then-are_texts-clause-some c =
    let elements = c.as_slice-list.result.now in
    let texts = there (each as_str (map view elements)) (each-tested as_str elements _ c.if-are_texts.ensures) in
    (texts.0, texts.1, texts_in-is _ elements (listed c.as_slice-list.ensures.value c.in_ok-as_array.ensures) ∙ texts.1)

pub returns-else-are_texts-clause-none : goal.returns-else-are_texts-clause-none
returns-else-are_texts-clause-none c =
    let elements = c.as_slice-list.result.now in
    texts_in-is _ elements (listed c.as_slice-list.ensures.value c.in_ok-as_array.ensures)
    ∙ missing (each as_str (map view elements)) (each-tested as_str elements _ c.if-are_texts.ensures)
