use Rattle.std.proofs.Common.{◌≡◌, take}
use Rattle.report_text.specs.ModelTable.{scores_table_text}
use Rattle.report_text.proofs.model.scores_table.Given as goal

abbrev pub invariant-loop-scored : goal.invariant-loop-scored
invariant-loop-scored l = l.out.items ≡ scores_table_text l.names.names (take l.scored-index l.list)
