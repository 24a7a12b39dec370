use Rattle.std.proofs.Common.{◌≡◌, ◌++◌, map, take}
use Rattle.reduce_model.specs.Deciding.{is_kept, marked}
use Rattle.reduce_model.proofs.others.push_kept.Given as goal

abbrev pub invariant-loop-place : goal.invariant-loop-place
invariant-loop-place l = l.kept.items ≡ l.initial.kept.items ++ marked (take l.place (map is_kept l.decisions)) (take l.place l.list)
