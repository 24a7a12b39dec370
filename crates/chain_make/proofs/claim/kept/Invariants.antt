use Rattle.std.proofs.Common.{◌≡◌, map, take}
use Rattle.reduce_model.specs.Deciding.{is_kept, marked}
use Rattle.chain_make.proofs.claim.kept.Given as goal

abbrev pub invariant-loop-place : goal.invariant-loop-place
invariant-loop-place l = l.kept.items ≡ marked (take l.place (map is_kept l.decisions)) (take l.place l.list)
