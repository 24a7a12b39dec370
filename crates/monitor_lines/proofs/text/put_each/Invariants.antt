use Rattle.std.proofs.Common.{List}
use Rattle.live_monitor.specs.declared.standing.Standing.{Standing}
use Rattle.monitor_lines.proofs.Put.{ArePut}
use Rattle.monitor_lines.proofs.text.put_each.Given as goal

abbrev pub invariant-loop-place : goal.invariant-loop-place
invariant-loop-place l = (each : List Standing) × ArePut l.monitor l.case l.place l.fn.text.items l.text.items each
