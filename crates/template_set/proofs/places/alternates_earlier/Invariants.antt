use Rattle.std.proofs.Common.{◌≡◌, take}
use Rattle.template_set.proofs.Around.{earlier}
use Rattle.template_set.proofs.places.alternates_earlier.Given as goal

abbrev pub invariant-loop-event : goal.invariant-loop-event
invariant-loop-event l = l.alternates ≡ earlier l.first l.second (take l.event-index l.before)
