use Rattle.minerful_core.proofs.GeneratedLog.{is_generated}
use Rattle.minerful_core.proofs.laws.generated_logs_are_read.Goals as goal

pub returns-clause-log : goal.returns-clause-log
returns-clause-log c = λ seed traces longest letters can. (is_generated seed traces longest letters can).log

pub returns-clause-traces : goal.returns-clause-traces
returns-clause-traces c = λ seed traces longest letters can. (is_generated seed traces longest letters can).trace_count
