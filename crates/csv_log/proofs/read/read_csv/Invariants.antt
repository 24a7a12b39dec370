use Rattle.std.proofs.Common.{◌-◌, length}
use Rattle.csv_log.proofs.Reading.{HasRead}
use Rattle.csv_log.proofs.read.read_csv.Given as goal

abbrev pub invariant-loop-collected : goal.invariant-loop-collected
invariant-loop-collected l = HasRead l.columns l.limits l.bytes l.places l.reader l.collected

abbrev pub decreases-loop-collected : goal.decreases-loop-collected
decreases-loop-collected l = l.limits.events - length l.collected.events.items
