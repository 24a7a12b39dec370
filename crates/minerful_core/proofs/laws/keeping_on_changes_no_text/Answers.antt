use Rattle.minerful_core.proofs.KeepingOn.{same_where_stopping}
use Rattle.minerful_core.proofs.laws.keeping_on_changes_no_text.Goals as goal

pub returns : goal.returns
returns c = same_where_stopping
