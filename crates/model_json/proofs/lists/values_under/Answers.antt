use Rattle.std.proofs.Common.{sym, ap, ◌∙◌, option_and_then}
use Rattle.model_json.specs.Model.{list_in}
use Rattle.model_json.proofs.Elements.{list_in-is, listed}
use Rattle.model_json.proofs.lists.values_under.Goals as goal

pub returns : goal.returns
returns c = sym (ap (option_and_then list_in) (sym c.in_ok-get.ensures) ∙ list_in-is _ c.as_slice.result.now (listed c.as_slice.ensures.value c.in_ok-as_array.ensures))
