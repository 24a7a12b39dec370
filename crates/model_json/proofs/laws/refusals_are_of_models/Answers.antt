use Rattle.model_json.proofs.ModelsWithin.{of_model}
use Rattle.model_json.proofs.laws.refusals_are_of_models.Goals as goal

pub returns : goal.returns
returns c = of_model
