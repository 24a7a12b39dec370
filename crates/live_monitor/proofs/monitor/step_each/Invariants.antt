use Rattle.live_monitor.specs.Watching.{AreStepped}
use Rattle.live_monitor.proofs.monitor.step_each.Given as goal

abbrev pub invariant-loop-place : goal.invariant-loop-place
invariant-loop-place l = AreStepped l.watched l.symbol l.from l.place l.fn.table_states l.table_states
