use Rattle.std.proofs.Common.{map, sym, ap, ◌∙◌, option_and_then}
use Rattle.serde_json.specs.View.{view}
use Rattle.model_json.specs.Model.{list_in}
use Rattle.model_json.proofs.Elements.{list_in-is, listed, shape_of-is}
use Rattle.model_json.proofs.shapes.shape_of.Goals as goal

pub returns-clause-some : goal.returns-clause-some
returns-clause-some c =
    let elements = c.as_slice-constraints.result.now in
    let tasks = c.in_ok-tasks.ensures.some in (
      tasks.0,
      tasks.1,
      shape_of-is (view c.args.value.now) (map view elements) tasks.0 c.in_ok-repertoire.repertoire
          (ap (option_and_then list_in) (sym c.in_ok-get.ensures) ∙ list_in-is _ elements (listed c.as_slice-constraints.ensures.value c.in_ok-as_array.ensures)) tasks.2 (sym c.in_ok-repertoire.ensures),
    )
