use Rattle.scoring.proofs.Reaching.{candidates_ascending}
use Rattle.scoring.proofs.laws.candidates_ascend.Goals as goal

pub returns : goal.returns
returns c = candidates_ascending
