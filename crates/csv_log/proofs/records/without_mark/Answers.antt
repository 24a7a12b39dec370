use Rattle.std.proofs.Common.{◌∙◌}
use Rattle.csv_log.proofs.Marks.{behind_mark, no_mark}
use Rattle.csv_log.proofs.records.without_mark.Goals as goal

pub returns-in-Some : goal.returns-in-Some
returns-in-Some c = c.in-Some.ensures.cases.1 ∙ behind_mark c.args.bytes.now c.in-Some.ensures.cases.0

pub returns-in-None : goal.returns-in-None
returns-in-None c = no_mark c.args.bytes.now c.in-None.ensures.cases
