use Rattle.std.proofs.Common.{◌≡◌, ◌++◌, drop}
use Rattle.chain_make.specs.Claims.{left_out}
use Rattle.chain_make.proofs.claim.left_out.Given as goal

abbrev pub invariant-loop-place : goal.invariant-loop-place
invariant-loop-place l = l.dropped.items ++ left_out (drop l.place l.list) (drop l.place l.decisions) ≡ left_out l.list l.decisions
