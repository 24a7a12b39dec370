use Rattle.scoring.proofs.Members.{candidates_are}
use Rattle.scoring.proofs.laws.candidates_of_log.Goals as goal

pub returns : goal.returns
returns c = candidates_are
