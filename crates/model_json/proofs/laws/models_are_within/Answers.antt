use Rattle.model_json.proofs.ModelsWithin.{is_model}
use Rattle.model_json.proofs.laws.models_are_within.Goals as goal

pub returns : goal.returns
returns c = is_model
