use Rattle.std.proofs.Common.{sym, arith}
use Rattle.template_set.proofs.Around.{occurrences_none, occurrences_more}
use Rattle.template_set.proofs.places.occurrences.Goals as goal
use Rattle.template_set.proofs.places.occurrences.Goals.{then-event-activity, else-event-activity}

pub loop-event-init : goal.loop-event-init
loop-event-init c = (sym (occurrences_none c.args.activity), omega arith)

pub loop-event-preserved : goal.loop-event-preserved
loop-event-preserved c =
    let more = occurrences_more c.args.activity c.args.events.now c.loop-event.event-index (omega arith) in
    let before = c.loop-event.invariant.0 in
    let few = c.loop-event.invariant.1 in
    elim c.if-event-activity.branch [
      | then-event-activity w ↦ (grind (arith, more, before, w.if-event-activity.true, w.count-is), omega arith)
      | else-event-activity w ↦ (grind (arith, more, before, w.if-event-activity.false, w.count-is), omega arith)
    ]
