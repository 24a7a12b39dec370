use Rattle.std.proofs.Common.{◌+◌, ◌-◌, length}
use Rattle.dfa_minimise.specs.Partitions.{members_of}
use Rattle.dfa_minimise.proofs.Progress.{AreGroupedBelow}
use Rattle.dfa_minimise.proofs.alike.alike_columns.Given as goal

abbrev pub invariant-classes : goal.invariant-classes
invariant-classes l = AreGroupedBelow l.dfa l.classes.class.items (members_of l.classes) l.groups l.class

abbrev pub decreases-classes : goal.decreases-classes
decreases-classes l = (length l.classes.first.items - l.class) + (l.dfa.width - length l.groups.first.items)
