use Rattle.std.proofs.Common.{◌≡◌, ◌<◌, ℕ}
use Rattle.template_core.specs.Tables.{step}
use Rattle.template_core.specs.declared.class.Class.TheVariants.{Other}
use Rattle.live_monitor.proofs.watched.stays.Given as goal

abbrev pub invariant-loop-state : goal.invariant-loop-state
invariant-loop-state l = (q : ℕ) → q < l.state → step l.table q Other ≡ q
