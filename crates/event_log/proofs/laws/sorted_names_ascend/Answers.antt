use Rattle.event_log.proofs.Alphabets.{sorted_names-ascends}
use Rattle.event_log.proofs.laws.sorted_names_ascend.Goals as goal

pub returns : goal.returns
returns c = sorted_names-ascends
