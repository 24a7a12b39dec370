use Rattle.scoring.proofs.Listing.{sorted-over}
use Rattle.scoring.proofs.laws.constraints_ascend.Goals as goal

pub returns : goal.returns
returns c = sorted-over
