use Rattle.event_log.proofs.Alphabets.{sorted_names-has}
use Rattle.event_log.proofs.laws.sorted_names_are_those_of_the_log.Goals as goal

pub returns : goal.returns
returns c = sorted_names-has
