use Rattle.minerful_core.proofs.Renaming.{is_model}
use Rattle.minerful_core.proofs.reading.read_left_model.Goals as goal

pub returns-clause-known : goal.returns-clause-known
returns-clause-known g c = is_model c.read_model.result c.read_model.ensures.once c.read_model.ensures.made c.read_model.ensures.few
