use Rattle.std.proofs.Common.{◌≡◌, ◌≤◌, take, nat_eq}
use Rattle.template_core.specs.Counters.{occurrences}
use Rattle.template_set.proofs.places.occurrences.Given as goal

abbrev pub invariant-loop-event : goal.invariant-loop-event
invariant-loop-event l = (l.count ≡ occurrences nat_eq l.activity (take l.event-index l.events)) × (l.count ≤ l.event-index)
