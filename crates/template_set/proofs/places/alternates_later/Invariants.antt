use Rattle.std.proofs.Common.{◌≡◌, drop}
use Rattle.template_set.proofs.Around.{later}
use Rattle.template_set.proofs.places.alternates_later.Given as goal

abbrev pub invariant-loop-event : goal.invariant-loop-event
invariant-loop-event l = later l.first l.second l.after ≡ later l.first l.second (drop l.event-index l.after)
