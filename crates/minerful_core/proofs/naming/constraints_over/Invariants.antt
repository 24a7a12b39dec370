use Rattle.std.proofs.Common.{◌≡◌, map, take}
use Rattle.minerful_core.specs.Models.{put_over}
use Rattle.minerful_core.proofs.naming.constraints_over.Given as goal

abbrev pub invariant-loop-k : goal.invariant-loop-k
invariant-loop-k l = l.list.items ≡ map (put_over l.names.names l.model) (take l.k l.constraints)
