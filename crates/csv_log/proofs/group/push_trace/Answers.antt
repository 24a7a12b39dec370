use Rattle.std.proofs.Common.{◌∙◌, arith, refl}
use Rattle.csv_log.proofs.Groups.{trace_more}
use Rattle.csv_log.proofs.Orders.{of_case}
use Rattle.csv_log.proofs.group.push_trace.Goals as goal

pub loop-event-preserved : goal.loop-event-preserved
loop-event-preserved c =
    c.in_ok-push_event.ensures.ok
    ∙ trace_more c.loop-event.log c.args.log.now c.args.events.now c.loop-event.event-index (of_case 0) _ c.loop-event.invariant (omega arith) refl
