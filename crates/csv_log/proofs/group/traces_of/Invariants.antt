use Rattle.csv_log.proofs.Groups.{AreGrouped}
use Rattle.csv_log.proofs.group.traces_of.Given as goal

abbrev pub invariant-loop-case : goal.invariant-loop-case
invariant-loop-case l = AreGrouped l.limits l.events l.cases l.case l.rest l.log
