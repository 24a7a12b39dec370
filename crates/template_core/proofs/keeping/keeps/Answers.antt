use Rattle.std.proofs.Common.{arith}
use Rattle.template_core.proofs.keeping.keeps.Goals as goal

pub loop-event-init : goal.loop-event-init
loop-event-init g c = (c.start-state.ensures, omega (arith, c.start-state.ensures, g.T.Template.meaning.some_states))
