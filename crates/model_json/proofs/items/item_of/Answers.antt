use Rattle.std.proofs.Common.{map, ap, ◌∙◌, option_map, List, ℕ}
use Rattle.serde_json.specs.View.{view}
use Rattle.model_json.specs.Model.{Item, each, texts_in}
use Rattle.model_json.proofs.Elements.{each-tested, item_of-is, listed, missing, there}
use Rattle.model_json.proofs.items.item_of.Goals as goal

abbrev of_parts : List ℕ → List (List (List ℕ)) → Item
of_parts template parameters = record { template = template; parameters = parameters }

pub returns-then-are_lists_of_texts-clause-some : goal.returns-then-are_lists_of_texts-clause-some
returns-then-are_lists_of_texts-clause-some c =
    let elements = c.as_slice-parameters.result.now in
    let template = c.in_ok-template.template.now in
    let parameters = there (each texts_in (map view elements)) (each-tested texts_in elements _ c.if-are_lists_of_texts.ensures) in (
      parameters.0,
      parameters.1,
      item_of-is (view c.args.value.now) _ _ template elements c.in_ok-get.ensures c.in_ok-template.ensures c.in_ok-get-2.ensures
          (listed c.as_slice-parameters.ensures.value c.in_ok-as_array.ensures) ∙ ap (option_map (of_parts template)) parameters.1,
    )

pub returns-else-are_lists_of_texts-clause-none : goal.returns-else-are_lists_of_texts-clause-none
returns-else-are_lists_of_texts-clause-none c =
    let elements = c.as_slice-parameters.result.now in
    let template = c.in_ok-template.template.now in
    item_of-is (view c.args.value.now) _ _ template elements c.in_ok-get.ensures c.in_ok-template.ensures c.in_ok-get-2.ensures
    (listed c.as_slice-parameters.ensures.value c.in_ok-as_array.ensures)
    ∙ ap (option_map (of_parts template)) (missing (each texts_in (map view elements)) (each-tested texts_in elements _ c.if-are_lists_of_texts.ensures))
